-- Where keys ascend, a half of the pairs tells the target.
use Rattle.std.proofs.Common.{◌≡◌, ℕ, zero, suc, ◌<◌, ◌-◌, ◌^◌, ◌%◌, ℤ, Bool, true, false, List, [], ◌∷◌, length, take, drop, Some, refl, sym, ap, ◌∙◌, subst, arith, ◌==◌, ◌<ℤ◌, ◌≤ℤ◌, int_le, slice_get, slice_index_or, FitsSigned, if◌then◌else◌}
use Rattle.std.{specs.{Int.{w32, cast_unsigned, cast_signed}, List.AllByRecursion}, proofs.{Math.Seq.take-length, lemmas.{Bool.ne_eqb, Int.{ints, to_z-of_z}, List.length-drop}}}
use Rattle.std.proofs.lemmas.Option.{slice_get-get_or}
use Rattle.jvm_types.specs.{CodeGrammar.KeysAscend, declared.code.Case.Case}
use Rattle.machine_types.specs.{Effects.case_target, Ints.{low, word_of, int_of}}
use Rattle.instr_effects.specs.SwitchKeys.{AreKeys}

abbrev AreInts : List Case → Type 0
AreInts cases = AllByRecursion (λ c. FitsSigned w32 c.key) cases

-- ---- a key that is another int

unsigned_fits : (z : ℤ) → FitsSigned w32 z → cast_unsigned w32 z < 2 ^ 32
unsigned_fits z fits = grind (arith, ints)

low_is : (a : ℕ) → a < 2 ^ 32 → a % 2 ^ 32 ≡ a
low_is a h = omega (arith, h)

same_int : (z : ℤ) (n : ℕ) → FitsSigned w32 z → word_of z ≡ low n → int_of n ≡ z
same_int z n fits e = ap (λ (k : ℕ). cast_signed w32 k) (sym e ∙ low_is (cast_unsigned w32 z) (unsigned_fits z fits)) ∙ to_z-of_z w32 z fits

not_key : (z : ℤ) (n : ℕ) → FitsSigned w32 z → (int_of n ≡ z → ⊥) → (word_of z == low n) ≡ false
not_key z n fits other = ne_eqb (word_of z) (low n) (λ e. other (same_int z n fits e))

passed : (otherwise n : ℕ) (c : Case) (cases : List Case) → (word_of c.key == low n) ≡ false → case_target otherwise (c ∷ cases) n ≡ case_target otherwise cases n
passed otherwise n c cases e = ap (λ (t : Bool). if t then c.target else case_target otherwise cases n) e

-- ---- the order of ints

before : (x y z : ℤ) → x <ℤ y → y <ℤ z → x <ℤ z
before x y z h k = omega (arith, ints, h, k)

differs : (x y : ℤ) → x <ℤ y → x ≡ y → ⊥
differs x y h e = omega (arith, ints, h, e)

not_behind : (x y z : ℤ) → x <ℤ y → y ≤ℤ z → z ≡ x → ⊥
not_behind x y z h k e = omega (arith, ints, h, k, e)

-- ---- pairs in the order of their keys

tail_ascends : (c : Case) (cases : List Case) → KeysAscend (c ∷ cases) → KeysAscend cases
tail_ascends c [] a = tt
tail_ascends c (d ∷ cases) a = a.1

below : (c : Case) (cases : List Case) (k : ℕ) (m : Case) → KeysAscend (c ∷ cases) → slice_get cases k ≡ Some m → c.key <ℤ m.key
below c [] k m a e = absurd (cc)
below c (d ∷ cases) zero m a e = let same : d ≡ m = cc in subst (λ (x : Case). c.key <ℤ x.key) same a.0
below c (d ∷ cases) (suc k) m a e = before c.key d.key m.key a.0 (below d cases k m a.1 e)

-- the pairs before one whose key is not above the int
skipped : (otherwise n k : ℕ) (cases : List Case) (m : Case) → KeysAscend cases → AreInts cases → slice_get cases k ≡ Some m → m.key ≤ℤ int_of n
    → case_target otherwise (drop k cases) n ≡ case_target otherwise cases n
skipped otherwise n k [] m a f e le = absurd (cc)
skipped otherwise n zero (c ∷ cases) m a f e le = refl
skipped otherwise n (suc k) (c ∷ cases) m a f e le =
    skipped otherwise n k cases m (tail_ascends c cases a) f.1 e le
    ∙ sym (passed otherwise n c cases (not_key c.key n f.0 (not_behind c.key m.key (int_of n) (below c cases k m a e) le)))

none_above : (otherwise n : ℕ) (d : Case) (cases : List Case) → KeysAscend (d ∷ cases) → AreInts (d ∷ cases) → int_of n <ℤ d.key → case_target otherwise (d ∷ cases) n ≡ otherwise
none_above otherwise n d [] a f lt = passed otherwise n d [] (not_key d.key n f.0 (differs (int_of n) d.key lt))
none_above otherwise n d (e ∷ cases) a f lt =
    passed otherwise n d (e ∷ cases) (not_key d.key n f.0 (differs (int_of n) d.key lt)) ∙ none_above otherwise n e cases a.1 f.1 (before (int_of n) d.key e.key lt a.0)

-- the pairs from one on whose key is above the int
cut_off : (otherwise n k : ℕ) (cases : List Case) (m : Case) → KeysAscend cases → AreInts cases → slice_get cases k ≡ Some m → int_of n <ℤ m.key
    → case_target otherwise (take k cases) n ≡ case_target otherwise cases n
cut_off otherwise n k [] m a f e lt = absurd (cc)
cut_off otherwise n zero (c ∷ cases) m a f e lt =
    let same : m ≡ c = cc in
    sym (none_above otherwise n c cases a f (subst (λ (x : Case). int_of n <ℤ x.key) same lt))
cut_off otherwise n (suc k) (c ∷ cases) m a f e lt =
    ap (λ (t : ℕ). if word_of c.key == low n then c.target else t) (cut_off otherwise n k cases m (tail_ascends c cases a) f.1 e lt)

-- ---- a part of such pairs

drop_ascends : (k : ℕ) (cases : List Case) → KeysAscend cases → KeysAscend (drop k cases)
drop_ascends zero [] a = tt
drop_ascends (suc k) [] a = tt
drop_ascends zero (c ∷ cases) a = a
drop_ascends (suc k) (c ∷ cases) a = drop_ascends k cases (tail_ascends c cases a)

drop_ints : (k : ℕ) (cases : List Case) → AreInts cases → AreInts (drop k cases)
drop_ints zero [] f = tt
drop_ints (suc k) [] f = tt
drop_ints zero (c ∷ cases) f = f
drop_ints (suc k) (c ∷ cases) f = drop_ints k cases f.1

take_ascends : (k : ℕ) (cases : List Case) → KeysAscend cases → KeysAscend (take k cases)
take_ascends zero [] a = tt
take_ascends (suc k) [] a = tt
take_ascends zero (c ∷ cases) a = tt
take_ascends (suc zero) (c ∷ []) a = tt
take_ascends (suc (suc k)) (c ∷ []) a = tt
take_ascends (suc zero) (c ∷ d ∷ cases) a = tt
take_ascends (suc (suc k)) (c ∷ d ∷ cases) a = (a.0, take_ascends (suc k) (d ∷ cases) a.1)

take_ints : (k : ℕ) (cases : List Case) → AreInts cases → AreInts (take k cases)
take_ints zero [] f = tt
take_ints (suc k) [] f = tt
take_ints zero (c ∷ cases) f = tt
take_ints (suc k) (c ∷ cases) f = (f.0, take_ints k cases f.1)

keys_behind : (k : ℕ) (cases : List Case) → AreKeys cases → AreKeys (drop k cases)
keys_behind k cases are = record { ascending = drop_ascends k cases are.ascending; ints = drop_ints k cases are.ints }

pub keys_before : (k : ℕ) (cases : List Case) → AreKeys cases → AreKeys (take k cases)
keys_before k cases are = record { ascending = take_ascends k cases are.ascending; ints = take_ints k cases are.ints }

-- ---- the half that is looked at

-- all of them behind a number
rest_is : (k : ℕ) (cases : List Case) → take (length cases - k) (drop k cases) ≡ drop k cases
rest_is k cases = ap (λ (n : ℕ). take n (drop k cases)) (sym (length-drop k cases)) ∙ take-length (drop k cases)

as_far : (x y : ℤ) → int_le x y ≡ true → x ≤ℤ y
as_far x y e = grind (arith, ints)

further : (x y : ℤ) → int_le x y ≡ false → y <ℤ x
further x y e = grind (arith, ints)

pub back_keys : (k : ℕ) (cases : List Case) → AreKeys cases → AreKeys (take (length cases - k) (drop k cases))
back_keys k cases are = subst (λ (cs : List Case). AreKeys cs) (sym (rest_is k cases)) (keys_behind k cases are)

pub in_back : (otherwise n k : ℕ) (cases : List Case) (d : Case) → AreKeys cases → k < length cases → int_le (slice_index_or cases k d).key (int_of n) ≡ true
    → case_target otherwise (take (length cases - k) (drop k cases)) n ≡ case_target otherwise cases n
in_back otherwise n k cases d are within e =
    ap (λ (cs : List Case). case_target otherwise cs n) (rest_is k cases)
    ∙ skipped otherwise n k cases (slice_index_or cases k d) are.ascending are.ints (slice_get-get_or cases k d within) (as_far (slice_index_or cases k d).key (int_of n) e)

pub in_front : (otherwise n k : ℕ) (cases : List Case) (d : Case) → AreKeys cases → k < length cases → int_le (slice_index_or cases k d).key (int_of n) ≡ false
    → case_target otherwise (take k cases) n ≡ case_target otherwise cases n
in_front otherwise n k cases d are within e =
    cut_off otherwise n k cases (slice_index_or cases k d) are.ascending are.ints (slice_get-get_or cases k d within) (further (slice_index_or cases k d).key (int_of n) e)
