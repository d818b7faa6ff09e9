-- Sums over the views of a table, when one of them changes.
use Rattle.std.{proofs.{Common.{◌≡◌, ◌≢◌, ℕ, zero, suc, ◌+◌, ◌<◌, ◌≤◌, List, [], ◌∷◌, length, refl, sym, ap, arith, slice_set}, lemmas.List.Sums.sum_by-cons}, specs.List.sum_by}
use lib.ListN.{get_elem?}
use mathlib.Core.Option.{some, some-injective, some-ne-none}

module _ {A : Type 0} (f : A → ℕ) where
  pub sum_set : (xs : List A) (i : ℕ) (x y : A) → get_elem? xs i ≡ some x
      → sum_by f (slice_set xs i y) + f x ≡ sum_by f xs + f y
  sum_set [] i x y e = absurd (some-ne-none x (sym e))
  sum_set (z ∷ zs) zero x y e =
      let g : f z ≡ f x = ap f (some-injective z x e) in
      let new : sum_by f (slice_set (z ∷ zs) zero y) ≡ f y + sum_by f zs = sum_by-cons f y zs in
      omega (arith, g, new, sum_by-cons f z zs)
  sum_set (z ∷ zs) (suc i) x y e =
      let r = sum_set zs i x y e in
      let new : sum_by f (slice_set (z ∷ zs) (suc i) y) ≡ f z + sum_by f (slice_set zs i y) = sum_by-cons f z (slice_set zs i y) in
      omega (arith, r, new, sum_by-cons f z zs)

  pub at_most : (xs : List A) (i : ℕ) (x : A) → get_elem? xs i ≡ some x → f x ≤ sum_by f xs
  at_most [] i x e = absurd (some-ne-none x (sym e))
  at_most (z ∷ zs) zero x e = let g : f z ≡ f x = ap f (some-injective z x e) in omega (arith, g, sum_by-cons f z zs)
  at_most (z ∷ zs) (suc i) x e = let r = at_most zs i x e in omega (arith, r, sum_by-cons f z zs)

  -- where one of them is the whole sum, every other is 0
  pub others_none : (xs : List A) (i j : ℕ) (x y : A) → get_elem? xs i ≡ some x → sum_by f xs ≤ f x → j ≢ i
      → get_elem? xs j ≡ some y → f y ≡ 0
  others_none [] i j x y e le n g = absurd (some-ne-none x (sym e))
  others_none (z ∷ zs) zero zero x y e le n g = absurd (n refl)
  others_none (z ∷ zs) zero (suc j) x y e le n g =
      let here : f z ≡ f x = ap f (some-injective z x e) in
      let most = at_most zs j y g in
      omega (arith, le, here, most, sum_by-cons f z zs)
  others_none (z ∷ zs) (suc i) zero x y e le n g =
      let here : f z ≡ f y = ap f (some-injective z y g) in
      let most = at_most zs i x e in
      omega (arith, le, here, most, sum_by-cons f z zs)
  others_none (z ∷ zs) (suc i) (suc j) x y e le n g = others_none zs i j x y e (omega (arith, le, sum_by-cons f z zs)) (λ k. n (ap suc k)) g

pub within : {A : Type 0} (xs : List A) (i : ℕ) (x : A) → get_elem? xs i ≡ some x → i < length xs
within [] i x e = absurd (some-ne-none x (sym e))
within (z ∷ zs) zero x e = omega arith
within (z ∷ zs) (suc i) x e = let r = within zs i x e in omega arith
