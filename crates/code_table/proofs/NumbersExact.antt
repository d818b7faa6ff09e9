-- The number of the instruction at a pc, and the instruction of that number.
use Rattle.std.{proofs.Common.{◌≡◌, ℕ, zero, suc, ◌≤◌, Bool, true, false, List, [], ◌∷◌, Option, Some, None, refl, subst, arith, ◌==◌, if◌then◌else◌, slice_get, IsSomeAnd}, specs.Option.option_map}
use Rattle.std.proofs.lemmas.Bool.{eq-eqb, ne_eqb, Decides.nat_tests}
use Rattle.jvm_types.specs.declared.code.Insn.{Insn}
use Rattle.code_table.{specs.{NumberLaws.NumbersAreExact, PcTables.{number_at, Ascend}}, proofs.{LaidOut.ascend, PcLaws.ascend_at}}

abbrev StandsAt : List Insn → ℕ → ℕ → Type 0
StandsAt code pc i = IsSomeAnd (slice_get code i) (λ insn. insn.pc ≡ pc)

stands : (code : List Insn) (pc i : ℕ) → number_at code pc ≡ Some i → StandsAt code pc i
stands [] pc i e = absurd (cc)
stands (x ∷ xs) pc i e = by_test (x.pc == pc) (number_at xs pc) refl e (stands xs pc)
  where
    by_test : (t : Bool) (o : Option ℕ) → (x.pc == pc) ≡ t → (if t then Some 0 else option_map suc o) ≡ Some i → ((j : ℕ) → o ≡ Some j → StandsAt xs pc j) → StandsAt (x ∷ xs) pc i
    by_test true o t h more = let same : 0 ≡ i = cc in subst (λ k. StandsAt (x ∷ xs) pc k) same (grind (arith, nat_tests, t))
    by_test false None t h more = absurd (cc)
    by_test false (Some j) t h more = let same : suc j ≡ i = cc in subst (λ k. StandsAt (x ∷ xs) pc k) same (more j refl)

pub number_here : (low : ℕ) (code : List Insn) (i : ℕ) (insn : Insn) → Ascend low code → slice_get code i ≡ Some insn → number_at code insn.pc ≡ Some i
number_here low [] i insn a e = absurd (cc)
number_here low (x ∷ xs) zero insn a e = let same : x ≡ insn = cc in rw (same, eq-eqb insn.pc insn.pc refl) refl
number_here low (x ∷ xs) (suc i) insn a e =
    let later : suc x.pc ≤ insn.pc = ascend_at (suc x.pc) xs i insn a.1 e in
    rw (ne_eqb x.pc insn.pc (omega arith), number_here (suc x.pc) xs i insn a.1 e) refl

at_some : (code : List Insn) (pc i : ℕ) (o : Option Insn) → Ascend 0 code → slice_get code i ≡ o → IsSomeAnd o (λ insn. insn.pc ≡ pc) → number_at code pc ≡ Some i
at_some code pc i None a e h = absurd h
at_some code pc i (Some insn) a e h = subst (λ (k : ℕ). number_at code k ≡ Some i) h (number_here 0 code i insn a e)

pub exact : NumbersAreExact
exact m pc i laid = (stands m.code pc i, at_some m.code pc i (slice_get m.code i) (ascend m laid) refl)
