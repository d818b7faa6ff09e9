-- Numbers of instructions by their pcs.
use Rattle.std.proofs.Common.{◌≡◌, ◌≢◌, ℕ, zero, suc, ◌+◌, ◌-◌, ◌<◌, ◌≤◌, ◌⊎◌, inl, inr, Bool, true, false, List, [], ◌∷◌, length, take, replicate, Option, Some, None, refl, sym, ◌∙◌, subst, arith, ◌==◌, ◌||◌, if◌then◌else◌, slice_get, slice_set, slice_index_or}
use Rattle.std.{specs.{List.{list_any, AllByRecursion}, Option.{option_map, is_some}}, proofs.lemmas.{Bool.{cases_eq, eq-eqb, ne_eqb}, List.{get_or-set_same, get_or-set_other}}}
use Rattle.jvm_types.specs.declared.code.Insn.{Insn}
use Rattle.code_table.specs.PcTables.{number_at, Ascend, IsPcTable}

pub ascend_at : (low : ℕ) (code : List Insn) (i : ℕ) (insn : Insn) → Ascend low code → slice_get code i ≡ Some insn → low ≤ insn.pc
ascend_at low [] i insn a e = absurd (cc)
ascend_at low (x ∷ xs) zero insn a e = let same : x ≡ insn = cc in rw (← same) a.0
ascend_at low (x ∷ xs) (suc i) insn a e = omega (arith, ascend_at (suc x.pc) xs i insn a.1 e, a.0)

-- the last pc is the greatest
greatest_at : (low : ℕ) (code : List Insn) (k : ℕ) (last : Insn) → length code ≡ suc k → Ascend low code → slice_get code k ≡ Some last → AllByRecursion (λ insn. insn.pc < last.pc + 1) code
greatest_at low [] k last n a e = tt
greatest_at low (x ∷ []) zero last n a e = let same : x ≡ last = cc in (rw same (omega arith), tt)
greatest_at low (x ∷ y ∷ ys) zero last n a e = absurd (omega (arith, n))
greatest_at low (x ∷ xs) (suc k) last n a e = (omega (arith, ascend_at (suc x.pc) xs k last a.1 e), greatest_at (suc x.pc) xs k last (omega (arith, n)) a.1 e)

pub last_greatest : (code : List Insn) (last : Insn) → Ascend 0 code → slice_get code (length code - 1) ≡ Some last → AllByRecursion (λ insn. insn.pc < last.pc + 1) code
last_greatest [] last a e = tt
last_greatest (x ∷ xs) last a e = greatest_at 0 (x ∷ xs) (length (x ∷ xs) - 1) last (omega arith) a e

pub all_at : (P : Insn → Type 0) (code : List Insn) (i : ℕ) (insn : Insn) → AllByRecursion P code → slice_get code i ≡ Some insn → P insn
all_at P [] i insn all e = absurd (cc)
all_at P (x ∷ xs) zero insn all e = let same : x ≡ insn = cc in subst P same all.0
all_at P (x ∷ xs) (suc i) insn all e = all_at P xs i insn all.1 e

not_before : (low : ℕ) (code : List Insn) (i : ℕ) (insn : Insn) → Ascend low code → slice_get code i ≡ Some insn → number_at (take i code) insn.pc ≡ None
not_before low [] i insn a e = absurd (cc)
not_before low (x ∷ xs) zero insn a e = refl
not_before low (x ∷ xs) (suc i) insn a e =
    let later : suc x.pc ≤ insn.pc = ascend_at (suc x.pc) xs i insn a.1 e in
    rw (ne_eqb x.pc insn.pc (omega arith), not_before (suc x.pc) xs i insn a.1 e) refl

here_then : (low : ℕ) (code : List Insn) (i : ℕ) (insn : Insn) → Ascend low code → slice_get code i ≡ Some insn → number_at (take (suc i) code) insn.pc ≡ Some i
here_then low [] i insn a e = absurd (cc)
here_then low (x ∷ xs) zero insn a e = let same : x ≡ insn = cc in rw (same, eq-eqb insn.pc insn.pc refl) refl
here_then low (x ∷ xs) (suc i) insn a e =
    let later : suc x.pc ≤ insn.pc = ascend_at (suc x.pc) xs i insn a.1 e in
    rw (ne_eqb x.pc insn.pc (omega arith), here_then (suc x.pc) xs i insn a.1 e) refl

other_then : (code : List Insn) (i : ℕ) (insn : Insn) (pc : ℕ) → slice_get code i ≡ Some insn → pc ≢ insn.pc → number_at (take (suc i) code) pc ≡ number_at (take i code) pc
other_then [] i insn pc e h = absurd (cc)
other_then (x ∷ xs) zero insn pc e h = let same : x ≡ insn = cc in rw (same, ne_eqb insn.pc pc (λ f. h (sym f))) refl
other_then (x ∷ xs) (suc i) insn pc e h = rw (other_then xs i insn pc e h) refl

pub places_more : (code : List Insn) (numbers : List (Option ℕ)) (i : ℕ) (insn : Insn) → Ascend 0 code → slice_get code i ≡ Some insn → insn.pc < length numbers
    → IsPcTable (take i code) numbers → IsPcTable (take (suc i) code) (slice_set numbers insn.pc (Some i))
places_more code numbers i insn a e h places pc = by_pc (cases_eq pc insn.pc)
  where
    by_pc : (pc ≡ insn.pc) ⊎ (pc ≢ insn.pc) → slice_index_or (slice_set numbers insn.pc (Some i)) pc None ≡ number_at (take (suc i) code) pc
    by_pc (inl f) = rw (f, get_or-set_same numbers insn.pc (Some i) None h) (sym (here_then 0 code i insn a e))
    by_pc (inr f) = get_or-set_other numbers insn.pc pc (Some i) None f ∙ places pc ∙ sym (other_then code i insn pc e f)

abbrev none_of : (A : Type 0) → Option A
none_of A = None

pub none_known : (n pc : ℕ) (numbers : List (Option ℕ)) → numbers ≡ replicate n None → slice_index_or numbers pc None ≡ None
none_known n pc numbers e = rw e (all_none n pc)
  where
    all_none : (n pc : ℕ) → slice_index_or (replicate n (none_of ℕ)) pc (none_of ℕ) ≡ none_of ℕ
    all_none zero pc = refl
    all_none (suc n) zero = refl
    all_none (suc n) (suc pc) = all_none n pc

pub place_some : (code : List Insn) (pc : ℕ) → is_some (number_at code pc) ≡ list_any (λ other. other.pc == pc) code
place_some [] pc = refl
place_some (x ∷ xs) pc = by_test (x.pc == pc) (number_at xs pc) (place_some xs pc)
  where
    by_test : (t : Bool) (o : Option ℕ) → is_some o ≡ list_any (λ other. other.pc == pc) xs → is_some (if t then Some 0 else option_map suc o) ≡ (t || list_any (λ other. other.pc == pc) xs)
    by_test true o h = refl
    by_test false None h = h
    by_test false (Some i) h = h

-- the number of an instruction is at most its pc
pub number_low : (low : ℕ) (code : List Insn) (i : ℕ) (insn : Insn) → Ascend low code → slice_get code i ≡ Some insn → low + i ≤ insn.pc
number_low low [] i insn a e = absurd (cc)
number_low low (x ∷ xs) zero insn a e = let same : x ≡ insn = cc in rw (← same) (omega (arith, a.0))
number_low low (x ∷ xs) (suc i) insn a e = omega (arith, number_low (suc x.pc) xs i insn a.1 e, a.0)
