-- The keys of each `lookupswitch` of a program ascend, since its code is spelled so.
use Rattle.std.{proofs.Common.{◌≡◌, ℕ, zero, suc, List, [], ◌∷◌, Option, Some, None, sym, ap, ◌∙◌, subst, slice_get, IsSomeAnd, FitsSigned}, specs.Int.w32}
use Rattle.jvm_types.specs.CodeGrammar.{SpellsInsns, SpellsOperands, offset}
use Rattle.jvm_types.specs.{CodeTable.{Form, Plain, Byte, Short, SignedByte, SignedShort, Branch, WideBranch, LocalAndStep, IntArray, Table, Lookup, form_of, branches_to}, Verifying.IsLaidOut}
use Rattle.jvm_types.{specs.declared.{code.{Case.Case, Insn.Insn, Op.{Op, TheVariants.Lookupswitch}}, program.MethodInfo.MethodInfo}, proofs.{CodeLaws.{FormHolds, form_holds}, CodeReading.FormLaw}}
use Rattle.jvm_types.proofs.EachAfter.{all_weaker}
use Rattle.instr_effects.specs.SwitchKeys.{AreKeys}

-- an instruction that branches nowhere is none, and one that branches to one place has no pairs
nowhere : (otherwise : ℕ) (cases : List Case) → branches_to (Lookupswitch otherwise cases) ≡ [] → AreKeys cases
nowhere otherwise cases e = absurd (cc)

one_way : (otherwise to : ℕ) (cases : List Case) → branches_to (Lookupswitch otherwise cases) ≡ to ∷ [] → AreKeys cases
one_way otherwise to [] e = record { ascending = tt; ints = tt }
one_way otherwise to (c ∷ cases) e = absurd (cc)

led : (op other : Op) (ways : List ℕ) → op ≡ other → branches_to op ≡ ways → branches_to other ≡ ways
led op other ways e h = sym (ap branches_to e) ∙ h

in_form : (pc : ℕ) (f : Form) (operands : List ℕ) (op : Op) (otherwise : ℕ) (cases : List Case) → FormLaw f → SpellsOperands pc f op operands → op ≡ Lookupswitch otherwise cases → AreKeys cases
in_form pc (Plain plain) operands op otherwise cases law h e = nowhere otherwise cases (led plain (Lookupswitch otherwise cases) [] (sym h.0 ∙ e) law)
in_form pc (Byte make) operands op otherwise cases law h e = nowhere otherwise cases (led (make h.0) (Lookupswitch otherwise cases) [] (sym h.1 ∙ e) (law h.0))
in_form pc (Short make) operands op otherwise cases law h e = nowhere otherwise cases (led (make h.0) (Lookupswitch otherwise cases) [] (sym h.1 ∙ e) (law h.0))
in_form pc (SignedByte make) operands op otherwise cases law h e = nowhere otherwise cases (led (make h.0) (Lookupswitch otherwise cases) [] (sym h.1 ∙ e) (law h.0))
in_form pc (SignedShort make) operands op otherwise cases law h e = nowhere otherwise cases (led (make h.0) (Lookupswitch otherwise cases) [] (sym h.1 ∙ e) (law h.0))
in_form pc (Branch make) operands op otherwise cases law h e = one_way otherwise h.0 cases (led (make h.0) (Lookupswitch otherwise cases) (h.0 ∷ []) (sym h.1 ∙ e) (law h.0))
in_form pc (WideBranch make) operands op otherwise cases law h e = one_way otherwise h.0 cases (led (make h.0) (Lookupswitch otherwise cases) (h.0 ∷ []) (sym h.1 ∙ e) (law h.0))
in_form pc (LocalAndStep make) operands op otherwise cases law h e = nowhere otherwise cases (led (make h.0 h.1) (Lookupswitch otherwise cases) [] (sym h.2 ∙ e) (law h.0 h.1))
in_form pc (IntArray array) operands op otherwise cases law h e = nowhere otherwise cases (led array (Lookupswitch otherwise cases) [] (sym h.0 ∙ e) law)
in_form pc Table operands op otherwise cases law h e = let is = h.is in absurd (cc)
in_form pc Lookup operands op otherwise cases law h e =
    let is = h.is in
    let same : h.cases ≡ cases = cc in
    subst (λ (cs : List Case). AreKeys cs) same (record {
      ascending = h.ascending;
      ints = all_weaker (λ (c : Case). FitsSigned w32 c.key × FitsSigned w32 (offset pc c.target)) (λ (c : Case). FitsSigned w32 c.key) (λ c fits. fits.0) h.cases h.cases_fit;
    })

in_known : (pc : ℕ) (o : Option Form) (operands : List ℕ) (op : Op) (otherwise : ℕ) (cases : List Case) → FormHolds o → IsSomeAnd o (λ f. SpellsOperands pc f op operands) → op ≡ Lookupswitch otherwise cases → AreKeys cases
in_known pc None operands op otherwise cases law h e = absurd h
in_known pc (Some f) operands op otherwise cases law h e = in_form pc f operands op otherwise cases law h e

in_code : (pc : ℕ) (insns : List Insn) (bytes : List ℕ) (i : ℕ) (insn : Insn) (otherwise : ℕ) (cases : List Case) → SpellsInsns pc insns bytes → slice_get insns i ≡ Some insn
    → insn.op ≡ Lookupswitch otherwise cases → AreKeys cases
in_code pc [] bytes i insn otherwise cases s there e = absurd (cc)
in_code pc (x ∷ insns) bytes zero insn otherwise cases s there e =
    let same : x ≡ insn = cc in
    in_known pc (form_of s.5.opcode) s.5.operands x.op otherwise cases (form_holds s.5.opcode) s.5.spelled (ap (λ (y : Insn). y.op) same ∙ e)
in_code pc (x ∷ insns) bytes (suc i) insn otherwise cases s there e = in_code x.next insns s.1 i insn otherwise cases s.6 there e

pub switch_keys : (m : MethodInfo) (i : ℕ) (insn : Insn) (otherwise : ℕ) (cases : List Case) → IsLaidOut m → slice_get m.code i ≡ Some insn → insn.op ≡ Lookupswitch otherwise cases → AreKeys cases
switch_keys m i insn otherwise cases laid there e = in_code 0 m.code laid.bytes i insn otherwise cases laid.code.spelled there e
