-- Items of lists: one that is set, each where all pass a test, and where one is.
use Rattle.std.proofs.Common.{◌≡◌, ◌≢◌, ◌⊎◌, inl, inr, ℕ, zero, suc, ◌<◌, Bool, true, List, [], ◌∷◌, length, Some, refl, sym, ap, subst, arith, Contains, slice_get, slice_set, slice_index_or}
use Rattle.std.specs.List.{list_all}
use Rattle.lists.proofs.TestLaws.{both_are_true}

-- to what it is
pub set_as_it_is : {A : Type 0} (xs : List A) (i : ℕ) (x : A) → slice_get xs i ≡ Some x → slice_set xs i x ≡ xs
set_as_it_is [] i x e = refl
set_as_it_is (y ∷ ys) zero x e = let same : y ≡ x = cc in ap (λ z. z ∷ ys) (sym same)
set_as_it_is (y ∷ ys) (suc i) x e = ap (λ zs. y ∷ zs) (set_as_it_is ys i x e)

pub got_when_set : {A : Type 0} (xs : List A) (i : ℕ) (x y : A) → slice_get xs i ≡ Some x → slice_get (slice_set xs i y) i ≡ Some y
got_when_set [] i x y e = cc
got_when_set (z ∷ zs) zero x y e = refl
got_when_set (z ∷ zs) (suc i) x y e = got_when_set zs i x y e

pub got_other : {A : Type 0} (xs : List A) (i j : ℕ) (x : A) → j ≢ i → slice_get (slice_set xs i x) j ≡ slice_get xs j
got_other [] i j x n = refl
got_other (z ∷ zs) zero zero x n = absurd (n refl)
got_other (z ∷ zs) zero (suc j) x n = refl
got_other (z ∷ zs) (suc i) zero x n = refl
got_other (z ∷ zs) (suc i) (suc j) x n = got_other zs i j x (λ e. n (ap suc e))

pub every : {X : Type 0} (test : X → Bool) (xs : List X) → list_all test xs ≡ true → (i : ℕ) (x : X) → slice_get xs i ≡ Some x → test x ≡ true
every test [] all i x e = cc
every {X} test (y ∷ ys) all zero x e = let g : y ≡ x = cc in subst (λ (z : X). test z ≡ true) g (both_are_true (test y) (list_all test ys) all).0
every test (y ∷ ys) all (suc i) x e = every test ys (both_are_true (test y) (list_all test ys) all).1 i x e

pub got_below : {X : Type 0} (xs : List X) (i : ℕ) (x : X) → slice_get xs i ≡ Some x → i < length xs
got_below [] i x e = cc
got_below (y ∷ xs) zero x e = omega arith
got_below (y ∷ xs) (suc i) x e = omega (arith, got_below xs i x e)

pub got_contained : {X : Type 0} (xs : List X) (i : ℕ) (x : X) → i < length xs → slice_index_or xs i x ≡ x → slice_get xs i ≡ Some x
got_contained [] i x lt e = absurd (omega (arith, lt))
got_contained (y ∷ xs) zero x lt e = ap Some e
got_contained (y ∷ xs) (suc i) x lt e = got_contained xs i x (omega (arith, lt)) e

pub first_or_more : {X : Type 0} (y : X) (xs : List X) (x : X) → Contains (y ∷ xs) x → (x ≡ y) ⊎ Contains xs x
first_or_more y xs x (zero, l, e) = inl (sym e)
first_or_more y xs x (suc i, l, e) = inr (i, omega (arith, l), e)
