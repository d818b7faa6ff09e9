-- The instructions that bytes spell, read off them: so code spells one list.
use Rattle.std.proofs.Common.{◌≡◌, ℕ, ◌+◌, ℤ, pos, List, [], ◌∷◌, ◌++◌, length, map, Option, Some, None, refl, ap, sym, ◌∙◌, arith, drop, nat_abs, IsSomeAnd, ◌-ℤ◌, ◌+ℤ◌, FitsSigned}
use Rattle.std.{specs.{Int.{w8, w32}, List.{AllByRecursion, flat_map}}, proofs.lemmas.Int.to_z-of_z}
use Rattle.jvm_types.specs.{CodeFault.{s4_of, landing, offsets, known_extent, SpellsOnce}, CodeGrammar.{offset, padding_size, spelled_case, SpellsTable, SpellsLookup, SpellsOperands, SpellsInsns}}
use Rattle.jvm_types.specs.{CodeTable.{Form, Plain, Byte, Short, SignedByte, SignedShort, Branch, WideBranch, LocalAndStep, IntArray, Table, Lookup, form_of}, Numbers.s4}
use Rattle.jvm_types.specs.{ReadCode.{table_op, cases_of, lookup_op, op_of, with_insn, insns_of}, declared.code.{Case.Case, Insn.Insn, Op.{Op, TheVariants.{Tableswitch, Lookupswitch}}}}
use Rattle.jvm_types.proofs.{CodeLaws.{FormHolds, form_holds, known_back}, CodeReading.{u2_back, s2_back, s4_back, landed_near, landed_at, offsets_back, body_back, same_cons, fits_signed, count_is}}

-- ---- one instruction

abs_back : (tos : List ℕ) → map nat_abs (map pos tos) ≡ tos
abs_back [] = refl
abs_back (to ∷ tos) = same_cons _ _ _ _ refl (abs_back tos)

table_op_by : (pc n to : ℕ) (low high : ℤ) (tos body : List ℕ) → s4_of (drop 4 body) ≡ low → s4_of (drop 8 body) ≡ high → landing pc (s4_of body) ≡ pos to
    → offsets pc n (drop 12 body) ≡ map pos tos → pos n ≡ high -ℤ low +ℤ pos 1 → table_op pc body ≡ Tableswitch to low tos
table_op_by pc n to low high tos body at4 at8 at0 at12 counted = rw at0 (rw at4 (rw at8 (rw (count_is n (high -ℤ low +ℤ pos 1) counted) (rw at12 (rw (abs_back tos) refl)))))

table_op_back : (pc : ℕ) (op : Op) (operands rest : List ℕ) (h : SpellsTable pc op operands) → table_op pc (drop (padding_size pc) (operands ++ rest)) ≡ op
table_op_back pc op operands rest h =
    let more : List ℕ = flat_map (λ to. s4 (offset pc to)) h.targets ++ rest in
    let body : List ℕ = s4 (offset pc h.otherwise) ++ s4 h.low ++ s4 h.high ++ flat_map (λ to. s4 (offset pc to)) h.targets in
    rw h.is (rw h.spelled (ap (table_op pc) (body_back h.padding body rest (padding_size pc) h.padded)
    ∙ table_op_by pc (length h.targets) h.otherwise h.low h.high h.targets (body ++ rest)
    (s4_back h.low (s4 h.high ++ more) h.low_fits) (s4_back h.high more h.high_fits) (landed_at pc h.otherwise (s4 h.low ++ (s4 h.high ++ more)) h.default_fits)
    (offsets_back pc h.targets rest h.offsets_fit) h.counted))

same_case : (c : Case) (key : ℤ) (to : ℕ) → key ≡ c.key → to ≡ c.target → ◌≡◌ {A = Case} (record { key = key; target = to }) c
same_case c key to e f = rw e (rw f refl)

cases_back : (pc : ℕ) (cases : List Case) (rest : List ℕ) → AllByRecursion (λ c. FitsSigned w32 c.key × FitsSigned w32 (offset pc c.target)) cases
    → cases_of pc (length cases) (flat_map (spelled_case pc) cases ++ rest) ≡ cases
cases_back pc [] rest h = refl
cases_back pc (c ∷ cases) rest h =
    let more : List ℕ = flat_map (spelled_case pc) cases ++ rest in
    same_cons _ _ _ _ (same_case c _ _ (s4_back c.key (s4 (offset pc c.target) ++ more) h.0.0) (ap nat_abs (landed_at pc c.target more h.0.1))) (cases_back pc cases rest h.1)

lookup_op_by : (pc n to : ℕ) (cases : List Case) (body : List ℕ) → s4_of (drop 4 body) ≡ pos n → landing pc (s4_of body) ≡ pos to
    → cases_of pc n (drop 8 body) ≡ cases → lookup_op pc body ≡ Lookupswitch to cases
lookup_op_by pc n to cases body at4 at0 at8 = rw at0 (rw at4 (rw at8 refl))

lookup_op_back : (pc : ℕ) (op : Op) (operands rest : List ℕ) (h : SpellsLookup pc op operands) → lookup_op pc (drop (padding_size pc) (operands ++ rest)) ≡ op
lookup_op_back pc op operands rest h =
    let more : List ℕ = flat_map (spelled_case pc) h.cases ++ rest in
    let body : List ℕ = s4 (offset pc h.otherwise) ++ s4 (pos (length h.cases)) ++ flat_map (spelled_case pc) h.cases in
    rw h.is (rw h.spelled (ap (lookup_op pc) (body_back h.padding body rest (padding_size pc) h.padded)
    ∙ lookup_op_by pc (length h.cases) h.otherwise h.cases (body ++ rest) (s4_back (pos (length h.cases)) more (fits_signed (length h.cases) h.count_fits))
    (landed_at pc h.otherwise (s4 (pos (length h.cases)) ++ more) h.default_fits) (cases_back pc h.cases rest h.cases_fit)))

op_back : (pc : ℕ) (f : Form) (op : Op) (operands rest : List ℕ) → SpellsOperands pc f op operands → op_of pc f (operands ++ rest) ≡ op
op_back pc (Plain plain) op operands rest h = sym h.0
op_back pc (Byte make) op operands rest h = rw h.1 (rw h.2 refl)
op_back pc (Short make) op operands rest h = rw h.1 (rw h.2 (ap make (u2_back h.0 rest)))
op_back pc (SignedByte make) op operands rest h = rw h.1 (rw h.2 (ap make (to_z-of_z w8 h.0 h.3)))
op_back pc (SignedShort make) op operands rest h = rw h.1 (rw h.2 (ap make (s2_back h.0 rest h.3)))
op_back pc (Branch make) op operands rest h = rw h.1 (rw h.2 (ap (λ to. make (nat_abs to)) (landed_near pc h.0 rest h.3)))
op_back pc (WideBranch make) op operands rest h = rw h.1 (rw h.2 (ap (λ to. make (nat_abs to)) (landed_at pc h.0 rest h.3)))
op_back pc (LocalAndStep make) op operands rest h = rw h.2 (rw h.3 (ap (make h.0) (to_z-of_z w8 h.1 h.5)))
op_back pc (IntArray array) op operands rest h = sym h.0
op_back pc Table op operands rest h = table_op_back pc op operands rest h
op_back pc Lookup op operands rest h = lookup_op_back pc op operands rest h

-- ---- all instructions

passed : (front rest : List ℕ) (pc next : ℕ) → next ≡ pc + length front → insns_of (length front) pc (front ++ rest) ≡ insns_of 0 next rest
passed [] rest pc next e = ap (λ n. insns_of 0 n rest) (omega (arith, e))
passed (b ∷ front) rest pc next e = passed front rest (pc + 1) next (omega (arith, e))

same_insn : (i : Insn) (pc next : ℕ) (op : Op) → pc ≡ i.pc → next ≡ i.next → op ≡ i.op → ◌≡◌ {A = Insn} (record { pc = pc; next = next; op = op }) i
same_insn i pc next op e f g = rw e (rw f (rw g refl))

with_back : (pc : ℕ) (o : Option Form) (op : Op) (operands rest : List ℕ) (i : Insn) (more : ℕ → List Insn) (others : List Insn)
    → FormHolds o → IsSomeAnd o (λ f. SpellsOperands pc f op operands) → pc ≡ i.pc → pc + 1 + length operands ≡ i.next → op ≡ i.op → more (length operands) ≡ others
    → with_insn pc o (known_extent pc o (operands ++ rest)) (operands ++ rest) more ≡ i ∷ others
with_back pc None op operands rest i more others law h at next is then = absurd h
with_back pc (Some f) op operands rest i more others law h at next is then = rw (known_back pc (Some f) op operands rest law h)
    (same_cons _ _ _ _ (same_insn i pc (pc + 1 + length operands) (op_of pc f (operands ++ rest)) at next (op_back pc f op operands rest h ∙ is)) then)

insns_back : (pc : ℕ) (insns : List Insn) (bytes : List ℕ) → SpellsInsns pc insns bytes → insns_of 0 pc bytes ≡ insns
insns_back pc [] bytes h = rw h refl
insns_back pc (i ∷ insns) bytes h =
    let at : pc + 1 + length h.5.operands ≡ i.next = omega (arith, h.4, ap length h.5.is) in
    rw h.2 (rw h.5.is (with_back pc (form_of h.5.opcode) i.op h.5.operands h.1 i (λ size. insns_of size (pc + 1) (h.5.operands ++ h.1)) insns (form_holds h.5.opcode) h.5.spelled (sym h.3) at refl
    (passed h.5.operands h.1 (pc + 1) i.next (sym at) ∙ insns_back i.next insns h.1 h.6)))

pub once : SpellsOnce
once bytes rows hs insns others code other = sym (insns_back 0 insns bytes code.spelled) ∙ insns_back 0 others bytes other.spelled
