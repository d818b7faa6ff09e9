-- Objects that lie apart: at most one of them has a place.
use Rattle.std.proofs.Common.{◌≡◌, ◌≢◌, ℕ, zero, suc, ◌+◌, ◌<◌, ◌≤◌, ◌⊎◌, inl, inr, Bool, true, false, List, [], ◌∷◌, length, get_or, Option, Some, None, refl, ap, ◌∙◌, arith, eqb, leb, leb-true, leb-false, position, slice_get, if◌then◌else◌, ◌==◌}
use Rattle.std.{specs.{List.{position_from, Sorted.{IsNonDecreasingBy, IsPartitionPoint}}, Option.{option_or, option_and_then}}, proofs.lemmas.Bool.Decides.{eqb_tells, nat_tests}}
use Rattle.std.proofs.lemmas.{Iterator.Adapters.position_from-zero, Option.{slice_get_past, slice_get_read}}
use Rattle.machine_types.specs.{PlainMemory.{Object, has_value, object_end, object_value, value_in}, Words.header_word}
use Rattle.plain_memory.specs.Order.{IsOnlyOne, ObjectsLieApart}

-- ---- an object that ends before a place, and one that begins behind it

has_before : (o : Object) (x : ℕ) → object_end o ≤ x → has_value o x ≡ false
has_before o x l = grind (arith, nat_tests)

has_behind : (o : Object) (x : ℕ) → x < o.reference → has_value o x ≡ false
has_behind o x l = grind (arith, nat_tests)

header_before : (o : Object) (x : ℕ) → object_end o ≤ x → (x == header_word o.reference) ≡ false
header_before o x l = grind (arith, nat_tests)

header_behind : (o : Object) (x : ℕ) → x < o.reference → (x == header_word o.reference) ≡ false
header_behind o x l = grind (arith, nat_tests)

value_before : (o : Object) (x : ℕ) → object_end o ≤ x → value_in o x ≡ None
value_before o x l = rw (header_before o x l, has_before o x l) refl

value_behind : (o : Object) (x : ℕ) → x < o.reference → value_in o x ≡ None
value_behind o x l = rw (header_behind o x l, has_behind o x l) refl

or_none : {A : Type 0} (a : Option A) → option_or a None ≡ a
or_none None = refl
or_none (Some a) = refl

-- ---- what stands at a place that only one object may have

all_behind : (os : List Object) (x : ℕ) → ((k : ℕ) (d : Object) → k < length os → x < (get_or os k d).reference) → object_value os x ≡ None
all_behind [] x behind = refl
all_behind (o ∷ os) x behind =
    rw (value_behind o x (behind 0 o (omega arith))) (all_behind os x (λ k d l. behind (suc k) d (omega (arith, l))))

one_less : (o : Object) (os : List Object) (x i : ℕ) → IsOnlyOne (o ∷ os) x (suc i) → IsOnlyOne os x i
one_less o os x i only = record {
  before = λ k d l m. only.before (suc k) d (omega (arith, l)) (omega (arith, m));
  behind = λ k d l m. only.behind (suc k) d (omega (arith, l)) (omega (arith, m));
}

value_at_number : (os : List Object) (x i : ℕ) → IsOnlyOne os x i → object_value os x ≡ option_and_then (λ o. value_in o x) (slice_get os i)
value_at_number [] x i only = refl
value_at_number (o ∷ os) x zero only =
    rw (all_behind os x (λ k d l. only.behind (suc k) d (omega arith) (omega (arith, l)))) (or_none (value_in o x))
value_at_number (o ∷ os) x (suc i) only =
    rw (value_before o x (only.before 0 o (omega arith) (omega arith))) (value_at_number os x i (one_less o os x i only))

pub value_at_some : (os : List Object) (x i : ℕ) (o : Object) → IsOnlyOne os x i → i < length os → o ≡ get_or os i o → object_value os x ≡ value_in o x
value_at_some os x i o only l is = value_at_number os x i only ∙ ap (option_and_then (λ o. value_in o x)) (slice_get_read os (length os) i o refl l is)

pub value_at_none : (os : List Object) (x i : ℕ) → IsOnlyOne os x i → length os ≤ i → object_value os x ≡ None
value_at_none os x i only l = value_at_number os x i only ∙ ap (option_and_then (λ o. value_in o x)) (slice_get_past os i l)

-- ---- the number of the first object that has a value there

none_behind : (os : List Object) (x n : ℕ) → ((k : ℕ) (d : Object) → k < length os → x < (get_or os k d).reference) → position_from (λ o. has_value o x) n os ≡ None
none_behind [] x n behind = refl
none_behind (o ∷ os) x n behind =
    rw (has_behind o x (behind 0 o (omega arith))) (none_behind os x (n + 1) (λ k d l. behind (suc k) d (omega (arith, l))))

abbrev pub number_if : (has : Bool) (n : ℕ) → Option ℕ
number_if has n = if has then Some n else None

number_from : (os : List Object) (x i n m : ℕ) → n + i ≡ m → IsOnlyOne os x i → position_from (λ o. has_value o x) n os ≡ option_and_then (λ o. number_if (has_value o x) m) (slice_get os i)
number_from [] x i n m e only = refl
number_from (o ∷ os) x zero n m e only =
    let same : n ≡ m = omega (arith, e) in
    rw (none_behind os x (n + 1) (λ k d l. only.behind (suc k) d (omega arith) (omega (arith, l))), same) refl
number_from (o ∷ os) x (suc i) n m e only =
    rw (has_before o x (only.before 0 o (omega arith) (omega arith))) (number_from os x i (n + 1) m (omega (arith, e)) (one_less o os x i only))

position_at_number : (os : List Object) (x i : ℕ) → IsOnlyOne os x i → position (λ o. has_value o x) os ≡ option_and_then (λ o. number_if (has_value o x) i) (slice_get os i)
position_at_number os x i only = position_from-zero (λ o. has_value o x) os ∙ number_from os x i 0 i (omega arith) only

pub position_at_some : (os : List Object) (x i : ℕ) (o : Object) (has : Bool) → IsOnlyOne os x i → i < length os → o ≡ get_or os i o → has_value o x ≡ has → position (λ o. has_value o x) os ≡ number_if has i
position_at_some os x i o has only l is e =
    position_at_number os x i only ∙ ap (option_and_then (λ o. number_if (has_value o x) i)) (slice_get_read os (length os) i o refl l is) ∙ ap (λ b. number_if b i) e

pub position_at_none : (os : List Object) (x i : ℕ) → IsOnlyOne os x i → length os ≤ i → position (λ o. has_value o x) os ≡ None
position_at_none os x i only l = position_at_number os x i only ∙ ap (option_and_then (λ o. number_if (has_value o x) i)) (slice_get_past os i l)

-- ---- the end of each is no lower than that of those before it

rises : (os : List Object) (i j : ℕ) (d : Object) → ObjectsLieApart os → i ≤ j → j < length os → ((eqb i j ≡ true) × (i ≡ j)) ⊎ ((eqb i j ≡ false) × (i ≢ j)) → object_end (get_or os i d) ≤ object_end (get_or os j d)
rises os i j d apart l m (inl same) = rw same.1 (omega arith)
rises os i j d apart l m (inr other) =
    let above = apart i j d (omega (arith, l, other.1)) m in
    omega (arith, above)

pub ends_rise : (os : List Object) → ObjectsLieApart os → IsNonDecreasingBy (λ o. object_end o) os
ends_rise os apart i j d l m = rises os i j d apart l m (eqb_tells i j)

-- ---- the number of objects that end at or before a place

pub only_one : (os : List Object) (x i : ℕ) → ObjectsLieApart os → IsPartitionPoint (λ o. leb (object_end o) x ≡ true) (λ o. leb (object_end o) x ≡ false) os i → IsOnlyOne os x i
only_one os x i apart point = record {
  before = λ k d l m. leb-true _ _ (point.0 k d (omega arith) l);
  behind = λ k d l m. (
      let above = apart i k d l m in
      let here = leb-false _ _ (point.1 i d (omega arith) (omega (arith, l, m))) in
      omega (arith, above, here));
}
