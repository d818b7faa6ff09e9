-- Where branches lead, as flags; and which fields the checks of all instructions of a method put out.
use Rattle.std.proofs.Common.{◌≡◌, ◌<◌, ◌≢◌, ℕ, zero, suc, Bool, true, false, List, [], ◌∷◌, length, replicate, Option, Some, None, refl, sym, ap, ◌∙◌, subst, arith, ⊎_elim, ◌⊎◌, inl, inr, ◌==◌, ◌||◌, if◌then◌else◌, slice_get}
use Rattle.std.{specs.{List.list_any, Option.option_map}, proofs.lemmas.{Bool.{cases_eq, eqb-true, eq-eqb, or_left, or_right}, List.length-replicate, Option.{same_Some, slice_get_within}}}
use Rattle.jvm_types.specs.{CodeTable.branches_to, Numbers.has_number, declared.{code.Insn.Insn, program.{MethodInfo.MethodInfo, Program.Program, Row.Row, Target.Target}}}
use Rattle.code_table.{specs.PcTables.{number_at, Ascend}, proofs.NumbersExact.number_here}
use Rattle.checked_program.specs.{LockTags.TagShape, OwnedArrays.is_branched_to, TaggedCode.row_of}
use Rattle.guard_analysis.specs.{FieldUses.field_noted, OwnedFound.{targets_set, branches_set, branched_flags, handlers_of, out_at, method_out}, declared.colouring.Colour.Colour}
use Rattle.guard_analysis.proofs.{ColourChecks.{InsnOther, puts_insn}, FieldUseLaws.none_set, FlagsPut.{is_set, Puts, puts_none, puts_then, puts_so, puts_noted}}

-- ---- where branches lead

abbrev LeadsTo : List Insn → List ℕ → (i : ℕ) → Type 0
LeadsTo code tos i = (to : ℕ) × (has_number tos to ≡ true) × (number_at code to ≡ Some i)

puts_targets : (code : List Insn) (flags : List Bool) (tos : List ℕ) → Puts flags (targets_set code flags tos) (λ i. LeadsTo code tos i)
puts_targets code flags [] = puts_so flags flags (λ i. ⊥) (λ i. LeadsTo code [] i) (puts_none flags) (λ i x. absurd x) (λ i x. let e : false ≡ true = x.1 in cc)
puts_targets code flags (to ∷ tos) =
    let next : List Bool = field_noted flags (number_at code to) in
    puts_so flags (targets_set code next tos) (λ i. (number_at code to ≡ Some i) ⊎ LeadsTo code tos i) (λ i. LeadsTo code (to ∷ tos) i)
    (puts_then flags next (targets_set code next tos) (λ i. number_at code to ≡ Some i) (λ i. LeadsTo code tos i) (puts_noted flags (number_at code to)) (puts_targets code next tos))
    (λ i x. ⊎_elim (λ e. (to, or_left (to == to) (has_number tos to) (eq-eqb to to refl), e)) (λ (y : LeadsTo code tos i). (y.0, or_right (to == y.0) (has_number tos y.0) y.1, y.2)) x)
    (λ i x. by_test i x.0 (to == x.0) refl x.1 x.2)
  where
    by_test : (i there : ℕ) (t : Bool) → (to == there) ≡ t → (to == there || has_number tos there) ≡ true → number_at code there ≡ Some i → (number_at code to ≡ Some i) ⊎ LeadsTo code tos i
    by_test i there true e h k = inl (ap (number_at code) (eqb-true to there e) ∙ k)
    by_test i there false e h k = inr (there, subst (λ (x : Bool). (x || has_number tos there) ≡ true) e h, k)

abbrev BranchesTo : List Insn → List Insn → (i : ℕ) → Type 0
BranchesTo code insns i = (to : ℕ) × (list_any (λ insn. has_number (branches_to insn.op) to) insns ≡ true) × (number_at code to ≡ Some i)

puts_branches : (code : List Insn) (flags : List Bool) (insns : List Insn) → Puts flags (branches_set code flags insns) (λ i. BranchesTo code insns i)
puts_branches code flags [] = puts_so flags flags (λ i. ⊥) (λ i. BranchesTo code [] i) (puts_none flags) (λ i x. absurd x) (λ i x. let e : false ≡ true = x.1 in cc)
puts_branches code flags (insn ∷ insns) =
    let next : List Bool = targets_set code flags (branches_to insn.op) in
    puts_so flags (branches_set code next insns) (λ i. LeadsTo code (branches_to insn.op) i ⊎ BranchesTo code insns i) (λ i. BranchesTo code (insn ∷ insns) i)
    (puts_then flags next (branches_set code next insns) (λ i. LeadsTo code (branches_to insn.op) i) (λ i. BranchesTo code insns i) (puts_targets code flags (branches_to insn.op)) (puts_branches code next insns))
    (λ i x. ⊎_elim (λ (y : LeadsTo code (branches_to insn.op) i). (y.0, or_left (has_number (branches_to insn.op) y.0) (list_any (λ o. has_number (branches_to o.op) y.0) insns) y.1, y.2))
    (λ (y : BranchesTo code insns i). (y.0, or_right (has_number (branches_to insn.op) y.0) (list_any (λ o. has_number (branches_to o.op) y.0) insns) y.1, y.2)) x)
    (λ i x. by_test i x.0 (has_number (branches_to insn.op) x.0) refl x.1 x.2)
  where
    by_test : (i there : ℕ) (t : Bool) → has_number (branches_to insn.op) there ≡ t → (has_number (branches_to insn.op) there || list_any (λ o. has_number (branches_to o.op) there) insns) ≡ true → number_at code there ≡ Some i
        → LeadsTo code (branches_to insn.op) i ⊎ BranchesTo code insns i
    by_test i there true e h k = inl (there, e, k)
    by_test i there false e h k = inr (there, subst (λ (x : Bool). (x || list_any (λ o. has_number (branches_to o.op) there) insns) ≡ true) e h, k)

-- the pcs of handlers
pub handler_there : (rows : List Row) (pc : ℕ) → has_number (handlers_of rows) pc ≡ list_any (λ handler. handler.handler == pc) rows
handler_there [] pc = refl
handler_there (row ∷ rows) pc = ap (λ (b : Bool). row.handler == pc || b) (handler_there rows pc)

-- the pc of a number
pub pc_of : (code : List Insn) (pc i : ℕ) (insn : Insn) → number_at code pc ≡ Some i → slice_get code i ≡ Some insn → insn.pc ≡ pc
pc_of [] pc i insn e h = absurd (cc)
pc_of (x ∷ code) pc i insn e h = by_test (x.pc == pc) refl e (λ j f g. pc_of code pc j insn f g)
  where
    suc_of : (o : Option ℕ) (i : ℕ) → option_map suc o ≡ Some i → (j : ℕ) × (o ≡ Some j) × (i ≡ suc j)
    suc_of None i e = absurd (cc)
    suc_of (Some j) i e = (j, refl, sym (same_Some (suc j) i e))

    by_test : (t : Bool) → (x.pc == pc) ≡ t → (if t then Some 0 else option_map suc (number_at code pc)) ≡ Some i → ((j : ℕ) → number_at code pc ≡ Some j → slice_get code j ≡ Some insn → insn.pc ≡ pc) → insn.pc ≡ pc
    by_test true f e more =
        let first : 0 ≡ i = same_Some 0 i e in
        let same : x ≡ insn = same_Some x insn (ap (slice_get (x ∷ code)) first ∙ h) in
        ap (λ (y : Insn). y.pc) (sym same) ∙ eqb-true x.pc pc f
    by_test false f e more =
        let s = suc_of (number_at code pc) i e in
        more s.0 s.1 (ap (slice_get (x ∷ code)) (sym s.2) ∙ h)

-- of an instruction of the method, what the flags say
pub branched_is : (m : MethodInfo) (i : ℕ) (insn : Insn) → Ascend 0 m.code → slice_get m.code i ≡ Some insn → is_set (branched_flags m) i ≡ is_branched_to m insn.pc
branched_is m i insn up e = by_both (is_set (branched_flags m) i) (is_branched_to m insn.pc) refl refl
  where
    none : List Bool
    none = replicate (length m.code) false

    all : Puts none (branched_flags m) (λ j. BranchesTo m.code m.code j ⊎ LeadsTo m.code (handlers_of m.rows) j)
    all = puts_then none (branches_set m.code none m.code) (branched_flags m) (λ j. BranchesTo m.code m.code j) (λ j. LeadsTo m.code (handlers_of m.rows) j) (puts_branches m.code none m.code)
        (puts_targets m.code (branches_set m.code none m.code) (handlers_of m.rows))

    by_branch : BranchesTo m.code m.code i → is_branched_to m insn.pc ≡ true
    by_branch x = or_left (list_any (λ o. has_number (branches_to o.op) insn.pc) m.code) (list_any (λ handler. handler.handler == insn.pc) m.rows)
        (subst (λ (pc : ℕ). list_any (λ o. has_number (branches_to o.op) pc) m.code ≡ true) (sym (pc_of m.code x.0 i insn x.2 e)) x.1)

    by_handler : LeadsTo m.code (handlers_of m.rows) i → is_branched_to m insn.pc ≡ true
    by_handler x = or_right (list_any (λ o. has_number (branches_to o.op) insn.pc) m.code) (list_any (λ handler. handler.handler == insn.pc) m.rows)
        (subst (λ (pc : ℕ). list_any (λ handler. handler.handler == pc) m.rows ≡ true) (sym (pc_of m.code x.0 i insn x.2 e)) (sym (handler_there m.rows x.0) ∙ x.1))

    there : is_set (branched_flags m) i ≡ true → is_branched_to m insn.pc ≡ true
    there h = ⊎_elim (λ n. absurd (none_set (length m.code) i n)) (λ x. ⊎_elim by_branch by_handler x) (all.only i h)

    leads : (s t : Bool) → list_any (λ o. has_number (branches_to o.op) insn.pc) m.code ≡ s → list_any (λ handler. handler.handler == insn.pc) m.rows ≡ t → (s || t) ≡ true → BranchesTo m.code m.code i ⊎ LeadsTo m.code (handlers_of m.rows) i
    leads true t f g h = inl (insn.pc, f, number_here 0 m.code i insn up e)
    leads false t f g h = inr (insn.pc, handler_there m.rows insn.pc ∙ g ∙ h, number_here 0 m.code i insn up e)

    back : is_branched_to m insn.pc ≡ true → is_set (branched_flags m) i ≡ true
    back h = all.all i (subst (λ (n : ℕ). i < n) (sym (length-replicate (length m.code) false)) (slice_get_within m.code i insn e)) (leads _ _ refl refl h)

    by_both : (s t : Bool) → is_set (branched_flags m) i ≡ s → is_branched_to m insn.pc ≡ t → s ≡ t
    by_both true false f g = sym (there f) ∙ g
    by_both false true f g = sym f ∙ back g
    by_both s t f g = refl

-- ---- all instructions of a method

module _ (p : Program) (m : MethodInfo) (tags : List (Option TagShape)) (branched : List Bool) (frames : List (Option (List Colour))) where
  -- the instruction i is reached, and does with the field what an owned one forbids
  pub record OtherAt (fi i : ℕ) : Type 0 where
    pub insn : Insn
    pub target : Target
    pub f : TagShape
    pub stack : List Colour
    pub is_insn : slice_get m.code i ≡ Some insn
    pub is_target : slice_get m.targets i ≡ Some target
    pub is_frame : slice_get tags i ≡ Some (Some f)
    pub is_stack : slice_get frames i ≡ Some (Some stack)
    pub other : InsnOther p m branched frames i insn target (row_of p m insn target) f stack fi

  abbrev Parts : Option Insn → Option Target → Option (Option TagShape) → Option (Option (List Colour)) → (fi i : ℕ) → Type 0
  Parts oi ot of os fi i = (insn : Insn) × (target : Target) × (f : TagShape) × (stack : List Colour) × (oi ≡ Some insn) × (ot ≡ Some target) × (of ≡ Some (Some f)) × (os ≡ Some (Some stack))
      × InsnOther p m branched frames i insn target (row_of p m insn target) f stack fi

  puts_at : (i : ℕ) (oi : Option Insn) (ot : Option Target) (of : Option (Option TagShape)) (os : Option (Option (List Colour))) (outs : List Bool)
      → Puts outs (out_at p m branched frames i oi ot of os outs) (λ fi. Parts oi ot of os fi i)
  puts_at i (Some insn) (Some target) (Some (Some f)) (Some (Some stack)) outs = puts_so outs _ (λ fi. InsnOther p m branched frames i insn target (row_of p m insn target) f stack fi) (λ fi. Parts (Some insn) (Some target) (Some (Some f)) (Some (Some stack)) fi i)
      (puts_insn p m branched frames i insn target (row_of p m insn target) f stack outs) (λ fi x. (insn, target, f, stack, refl, refl, refl, refl, x))
      (λ fi x. that fi x.0 x.1 x.2 x.3 (same_Some insn x.0 x.4) (same_Some target x.1 x.5) (same_Some f x.2 (same_Some (Some f) (Some x.2) x.6)) (same_Some stack x.3 (same_Some (Some stack) (Some x.3) x.7)) x.8)
    where
      that : (fi : ℕ) (a : Insn) (b : Target) (u : TagShape) (s : List Colour) → insn ≡ a → target ≡ b → f ≡ u → stack ≡ s → InsnOther p m branched frames i a b (row_of p m a b) u s fi → InsnOther p m branched frames i insn target (row_of p m insn target) f stack fi
      that fi a b u s e g h k x = subst (λ (z : Insn). InsnOther p m branched frames i z target (row_of p m z target) f stack fi) (sym e)
          (subst (λ (z : Target). InsnOther p m branched frames i a z (row_of p m a z) f stack fi) (sym g)
          (subst (λ (z : TagShape). InsnOther p m branched frames i a b (row_of p m a b) z stack fi) (sym h) (subst (λ (z : List Colour). InsnOther p m branched frames i a b (row_of p m a b) u z fi) (sym k) x)))
  puts_at i oi ot of os outs = puts_so outs outs (λ fi. ⊥) (λ fi. Parts oi ot of os fi i) (puts_none outs) (λ fi x. absurd x)
      (λ fi x. let a : oi ≡ Some x.0 = x.4 in let b : ot ≡ Some x.1 = x.5 in let c : of ≡ Some (Some x.2) = x.6 in let d : os ≡ Some (Some x.3) = x.7 in cc)

  abbrev pub OtherBefore : (fi n : ℕ) → Type 0
  OtherBefore fi n = (i : ℕ) × (i < n) × OtherAt fi i

  pub puts_method : (outs : List Bool) (n : ℕ) → Puts outs (method_out p m tags branched frames outs n) (λ fi. OtherBefore fi n)
  puts_method outs zero = puts_so outs outs (λ fi. ⊥) (λ fi. OtherBefore fi 0) (puts_none outs) (λ fi x. absurd x) (λ fi x. omega (arith, x.1))
  puts_method outs (suc n) =
      let before : List Bool = method_out p m tags branched frames outs n in
      let P : ℕ → Type 0 = λ fi. Parts (slice_get m.code n) (slice_get m.targets n) (slice_get tags n) (slice_get frames n) fi n in
      puts_so outs (method_out p m tags branched frames outs (suc n)) (λ fi. OtherBefore fi n ⊎ P fi) (λ fi. OtherBefore fi (suc n))
      (puts_then outs before (method_out p m tags branched frames outs (suc n)) (λ fi. OtherBefore fi n) P (puts_method outs n) (puts_at n (slice_get m.code n) (slice_get m.targets n) (slice_get tags n) (slice_get frames n) before))
      (λ fi x. ⊎_elim (λ (y : OtherBefore fi n). (y.0, omega (arith, y.1), y.2)) (λ y. (n, omega arith, made fi y)) x)
      (λ fi x. ⊎_elim (λ (q : x.0 ≡ n). inr (shown fi (subst (OtherAt fi) q x.2))) (λ (q : x.0 ≢ n). inl (x.0, omega (arith, x.1, q), x.2)) (cases_eq x.0 n))
    where
      made : (fi : ℕ) → Parts (slice_get m.code n) (slice_get m.targets n) (slice_get tags n) (slice_get frames n) fi n → OtherAt fi n
      made fi y = record { insn = y.0; target = y.1; f = y.2; stack = y.3; is_insn = y.4; is_target = y.5; is_frame = y.6; is_stack = y.7; other = y.8 }

      shown : (fi : ℕ) → OtherAt fi n → Parts (slice_get m.code n) (slice_get m.targets n) (slice_get tags n) (slice_get frames n) fi n
      shown fi o = (o.insn, o.target, o.f, o.stack, o.is_insn, o.is_target, o.is_frame, o.is_stack, o.other)
