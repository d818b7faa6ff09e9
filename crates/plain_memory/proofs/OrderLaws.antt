-- What keeps objects in order.
use Rattle.std.proofs.Common.{◌≡◌, ℕ, zero, suc, ◌+◌, ◌-◌, ◌<◌, ◌≤◌, Bool, true, false, List, [], ◌∷◌, ◌++◌, length, get_or, take, length-set, refl, sym, ap, arith, slice_set, if◌then◌else◌}
use Rattle.std.proofs.lemmas.List.{take_all, take_more, Elements.All-push, Quantifiers.all_pairs_push}
use Rattle.machine_types.specs.PlainMemory.{Object, has_value, first_value, object_end, object_write}
use Rattle.plain_memory.specs.Order.{AreInOrder}

-- ---- one more object, and a higher number

pub one_more : (os : List Object) (o : Object) (n m : ℕ) → AreInOrder os n → n ≤ o.reference → object_end o ≤ m → AreInOrder (os ++ o ∷ []) m
one_more os o n m order above below = record {
  apart = all_pairs_push (λ a b. object_end a ≤ b.reference) os o order.apart (λ k d l. let h = order.before k d l in omega (arith, h, above));
  before = All-push (λ a. object_end a ≤ m) os o (λ k d l. let h = order.before k d l in omega (arith, h, above, below)) below;
}

pub number_rises : (os : List Object) (n m : ℕ) → AreInOrder os n → n ≤ m → AreInOrder os m
number_rises os n m order above = record {
  apart = order.apart;
  before = λ k d l. let h = order.before k d l in omega (arith, h, above);
}

pub none_in_order : (n : ℕ) → AreInOrder [] n
none_in_order n = record {
  apart = λ i j d l m. absurd (omega (arith, m));
  before = λ k d l. absurd (omega (arith, l));
}

pub taken_in_order : (os : List Object) (i n : ℕ) (o : Object) → i < length os → o ≡ get_or os i o → n ≤ o.reference → AreInOrder (take i os) n → AreInOrder (take (i + 1) os) (object_end o)
taken_in_order os i n o l is above order =
    rw (take_more os i o l, sym is) (one_more (take i os) o n (object_end o) order above (omega arith))

pub all_in_order : (os : List Object) (i n m : ℕ) → length os ≤ i → AreInOrder (take i os) n → n ≤ m → AreInOrder os m
all_in_order os i n m l order above = number_rises os n m (rw (take_all i os l) at order) above

-- ---- a write

length_if : (has : Bool) (o p : Object) (os ys : List Object) → length ys ≡ length os → length (if has then p ∷ os else o ∷ ys) ≡ length (o ∷ os)
length_if true o p os ys h = refl
length_if false o p os ys h = ap suc h

length_written : (os : List Object) (x v : ℕ) → length (object_write os x v) ≡ length os
length_written [] x v = refl
length_written (o ∷ os) x v = length_if (has_value o x) o (record o { values = slice_set o.values (x - first_value o) v }) os (object_write os x v) (length_written os x v)

-- what a change of one object leaves as it was
part_if : (part : Object → ℕ) (has : Bool) (o p : Object) (os ys : List Object) (k : ℕ) (d : Object) → part p ≡ part o → ((k : ℕ) → part (get_or ys k d) ≡ part (get_or os k d)) → part (get_or (if has then p ∷ os else o ∷ ys) k d) ≡ part (get_or (o ∷ os) k d)
part_if part true o p os ys zero d same rest = same
part_if part true o p os ys (suc k) d same rest = refl
part_if part false o p os ys zero d same rest = refl
part_if part false o p os ys (suc k) d same rest = rest k

part_written : (part : Object → ℕ) → ((o : Object) (i v : ℕ) → part (record o { values = slice_set o.values i v }) ≡ part o)
    → (os : List Object) (x v k : ℕ) (d : Object) → part (get_or (object_write os x v) k d) ≡ part (get_or os k d)
part_written part same [] x v k d = refl
part_written part same (o ∷ os) x v k d =
    part_if part (has_value o x) o (record o { values = slice_set o.values (x - first_value o) v }) os (object_write os x v) k d (same o (x - first_value o) v) (λ k. part_written part same os x v k d)

end_written : (os : List Object) (x v k : ℕ) (d : Object) → object_end (get_or (object_write os x v) k d) ≡ object_end (get_or os k d)
end_written os x v k d = part_written (λ o. object_end o) (λ o i v. ap (λ n. first_value o + n) (length-set o.values i v)) os x v k d

reference_written : (os : List Object) (x v k : ℕ) (d : Object) → (get_or (object_write os x v) k d).reference ≡ (get_or os k d).reference
reference_written os x v k d = part_written (λ o. o.reference) (λ o i v. refl) os x v k d

pub written_in_order : (os : List Object) (x v n : ℕ) → AreInOrder os n → AreInOrder (object_write os x v) n
written_in_order os x v n order = record {
  apart = λ i j d l m. rw (end_written os x v i d, reference_written os x v j d) (order.apart i j d l (rw (length_written os x v) at m));
  before = λ k d l. rw (end_written os x v k d) (order.before k d (rw (length_written os x v) at l));
}
