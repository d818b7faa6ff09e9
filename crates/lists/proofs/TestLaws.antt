-- Laws of tests that belong to no crate.
use Rattle.std.proofs.{Common.{◌≡◌, ℕ, Bool, true, false, refl, arith, ◌&&◌, ◌||◌, ◌==◌, not}, lemmas.Bool.Decides.nat_tests}

pub both_true : (a b : Bool) → a ≡ true → b ≡ true → (a && b) ≡ true
both_true true b e f = f
both_true false b e f = cc

pub both_are_true : (a b : Bool) → (a && b) ≡ true → (a ≡ true) × (b ≡ true)
both_are_true true b e = (refl, e)
both_are_true false b e = cc

pub first_true : (a b : Bool) → a ≡ true → (a || b) ≡ true
first_true true b e = refl
first_true false b e = cc

pub second_true : (a b : Bool) → b ≡ true → (a || b) ≡ true
second_true true b e = refl
second_true false b e = e

pub or_assoc : (a b c : Bool) → (a || (b || c)) ≡ ((a || b) || c)
or_assoc true b c = refl
or_assoc false b c = refl

pub or_false : (a : Bool) → (a || false) ≡ a
or_false true = refl
or_false false = refl

pub is_true : (b : Bool) → not b ≡ false → b ≡ true
is_true true e = refl
is_true false e = cc

pub same_number : (m n : ℕ) → m ≡ n → (m == n) ≡ true
same_number m n e = grind (arith, nat_tests, e)
