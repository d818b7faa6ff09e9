-- What holds of each item of a list and of those before it.
use Rattle.std.proofs.Common.{◌≡◌, ◌<◌, ◌⊎◌, inl, inr, ℕ, zero, suc, ◌+◌, List, [], ◌∷◌, ◌++◌, length, take, drop, Option, Some, None, option_map, refl, sym, ap, subst, ◌∙◌, append_assoc, append-nil, arith, slice_get}
use Rattle.std.{specs.List.{AllByRecursion, sum_by}, proofs.lemmas.{List.{Sums.sum_by-append, drop_more}, Option.{same_Some, slice_get_within, get_or_from_slice_get}}}
pub use Rattle.lists.proofs.ListLaws.{all_weaker}

module _ {X : Type 0} (P : List X → X → Type 0) where
  abbrev pub EachAfter : List X → List X → Type 0
  EachAfter before [] = Unit {0}
  EachAfter before (x ∷ xs) = P before x × EachAfter (before ++ x ∷ []) xs

  pub each_append : (before xs ys : List X) → EachAfter before xs → EachAfter (before ++ xs) ys → EachAfter before (xs ++ ys)
  each_append before [] ys h k = subst (λ (b : List X). EachAfter b ys) (append-nil before) k
  each_append before (x ∷ xs) ys h k = (h.0, each_append (before ++ x ∷ []) xs ys h.1 (subst (λ (b : List X). EachAfter b ys) (sym (append_assoc before (x ∷ []) xs)) k))

  at_from : (before xs : List X) (number : ℕ) (x : X) → EachAfter before xs → slice_get xs number ≡ Some x → P (before ++ take number xs) x
  at_from before [] number x h e = absurd cc
  at_from before (y ∷ xs) zero x h e = subst (λ (b : List X). P b x) (sym (append-nil before)) (subst (λ (z : X). P before z) (same_Some y x e) h.0)
  at_from before (y ∷ xs) (suc number) x h e = subst (λ (b : List X). P b x) (append_assoc before (y ∷ []) (take number xs)) (at_from (before ++ y ∷ []) xs number x h.1 e)

  -- the item with a number, and those before it
  pub at_number : (xs : List X) (number : ℕ) (x : X) → EachAfter [] xs → slice_get xs number ≡ Some x → P (take number xs) x
  at_number xs number x h e = at_from [] xs number x h e

-- ---- lists in general

pub all_append : {X : Type 0} (P : X → Type 0) (xs ys : List X) → AllByRecursion P xs → AllByRecursion P ys → AllByRecursion P (xs ++ ys)
all_append P [] ys h k = k
all_append P (x ∷ xs) ys h k = (h.0, all_append P xs ys h.1 k)

pub sum_first : {X : Type 0} (f : X → ℕ) (x : X) (xs : List X) → sum_by f (x ∷ xs) ≡ f x + sum_by f xs
sum_first f x xs = let e : sum_by f (x ∷ xs) ≡ 0 + f x + sum_by f xs = sum_by-append f (x ∷ []) xs in omega (arith, e)

pub sum_last : {X : Type 0} (f : X → ℕ) (xs : List X) (x : X) → sum_by f (xs ++ x ∷ []) ≡ sum_by f xs + f x
sum_last f xs x = let e : sum_by f (xs ++ x ∷ []) ≡ sum_by f xs + (0 + f x) = sum_by-append f xs (x ∷ []) in omega (arith, e)

-- ---- the item at a place

pub front_at : {X : Type 0} (xs ys : List X) (i : ℕ) (x : X) → slice_get xs i ≡ Some x → slice_get (xs ++ ys) i ≡ Some x
front_at [] ys i x e = absurd (cc)
front_at (y ∷ xs) ys zero x e = e
front_at (y ∷ xs) ys (suc i) x e = front_at xs ys i x e

-- an item of a list with one more is an item of the list, or that one
pub last_got : {X : Type 0} (xs : List X) (y : X) (i : ℕ) (x : X) → slice_get (xs ++ y ∷ []) i ≡ Some x → (slice_get xs i ≡ Some x) ⊎ ((i ≡ length xs) × (x ≡ y))
last_got [] y zero x e = inr (refl, sym (same_Some y x e))
last_got [] y (suc i) x e = absurd (cc)
last_got (z ∷ xs) y zero x e = inl e
last_got (z ∷ xs) y (suc i) x e = one_on (last_got xs y i x e)
  where
    one_on : (slice_get xs i ≡ Some x) ⊎ ((i ≡ length xs) × (x ≡ y)) → (slice_get (z ∷ xs) (suc i) ≡ Some x) ⊎ ((suc i ≡ length (z ∷ xs)) × (x ≡ y))
    one_on (inl g) = inl g
    one_on (inr k) = inr (ap suc k.0, k.1)

pub drop_got : {X : Type 0} (xs : List X) (i : ℕ) (x : X) → slice_get xs i ≡ Some x → drop i xs ≡ x ∷ drop (i + 1) xs
drop_got xs i x e = drop_more xs i x (slice_get_within xs i x e) ∙ ap (λ y. y ∷ drop (i + 1) xs) (get_or_from_slice_get xs i x x e)

pub there_is : {X : Type 0} (xs : List X) (i : ℕ) → i < length xs → slice_get xs i ≡ None → ⊥
there_is [] i l e = absurd (omega (arith, l))
there_is (x ∷ xs) zero l e = cc
there_is (x ∷ xs) (suc i) l e = there_is xs i (omega (arith, l)) e

-- at a place, if it is known
abbrev pub item_at : {X : Type 0} → List X → Option ℕ → Option X
item_at xs None = None
item_at xs (Some i) = slice_get xs i

pub no_item : {X : Type 0} (n : Option ℕ) → item_at {X = X} [] n ≡ None
no_item None = refl
no_item (Some i) = refl

pub next_item : {X : Type 0} (x : X) (xs : List X) (n : Option ℕ) → item_at xs n ≡ item_at (x ∷ xs) (option_map suc n)
next_item x xs None = refl
next_item x xs (Some i) = refl
