-- Lists by index.
use Rattle.std.proofs.Common.{◌≡◌, ℕ, zero, suc, ◌+◌, ◌<◌, List, [], ◌∷◌, ◌++◌, length, take, get_or, Option, Some, None, IsSomeAnd, refl, sym, ap, ◌∙◌, subst, arith, slice_get}
use Rattle.std.{specs.List.AllByRecursion, proofs.lemmas.List.{take_more, length-append}}

module _ {X : Type 0} where
  pub some_same : {x y : X} → Some x ≡ Some y → x ≡ y
  some_same e = cc

  -- what stands in a list stands there still behind more
  pub got_before : (xs ys : List X) (i : ℕ) (x : X) → slice_get xs i ≡ Some x → slice_get (xs ++ ys) i ≡ Some x
  got_before [] ys i x e = absurd cc
  got_before (y ∷ xs) ys zero x e = e
  got_before (y ∷ xs) ys (suc i) x e = got_before xs ys i x e

  pub got_last : (xs : List X) (x : X) → slice_get (xs ++ x ∷ []) (length xs) ≡ Some x
  got_last [] x = refl
  got_last (y ∷ xs) x = got_last xs x

  pub got_at : (xs : List X) (x : X) (i : ℕ) → i ≡ length xs → slice_get (xs ++ x ∷ []) i ≡ Some x
  got_at xs x i e = ap (slice_get (xs ++ x ∷ [])) e ∙ got_last xs x

  pub some_and : (o : Option X) (P : X → Type 0) (x : X) → o ≡ Some x → P x → IsSomeAnd o P
  some_and None P x e p = absurd cc
  some_and (Some y) P x e p = subst P (some_same (sym e)) p

  pub and_some : (o : Option X) (P : X → Type 0) → IsSomeAnd o P → (x : X) × (o ≡ Some x) × P x
  and_some None P p = absurd p
  and_some (Some y) P p = (y, refl, p)

  pub some_and_before : (xs ys : List X) (i : ℕ) (P : X → Type 0) → IsSomeAnd (slice_get xs i) P → IsSomeAnd (slice_get (xs ++ ys) i) P
  some_and_before xs ys i P p = let a : (x : X) × (slice_get xs i ≡ Some x) × P x = and_some (slice_get xs i) P p in some_and (slice_get (xs ++ ys) i) P a.0 (got_before xs ys i a.0 a.1) a.2

module _ {X : Type 0} where
  -- what stands elsewhere than at the end stood there before
  pub got_other : (xs : List X) (x : X) (i : ℕ) → (i ≡ length xs → ⊥) → slice_get (xs ++ x ∷ []) i ≡ slice_get xs i
  got_other [] x zero ne = absurd (ne refl)
  got_other [] x (suc i) ne = refl
  got_other (y ∷ xs) x zero ne = refl
  got_other (y ∷ xs) x (suc i) ne = got_other xs x i (λ e. ne (ap suc e))

  pub length_push : (xs : List X) (x : X) (i : ℕ) → length xs ≡ i → length (xs ++ x ∷ []) ≡ i + 1
  length_push xs x i e = omega (arith, length-append xs (x ∷ []))

  -- a loop over a list has passed one item more
  pub take_next : (xs : List X) (i : ℕ) (x : X) → i < length xs → x ≡ get_or xs i x → take (i + 1) xs ≡ take i xs ++ x ∷ []
  take_next xs i x l e = take_more xs i x l ∙ ap (λ (y : X). take i xs ++ y ∷ []) (sym e)

  -- what holds of each item holds of the one at an index
  pub all_at : (P : X → Type 0) (xs : List X) (i : ℕ) (x : X) → AllByRecursion P xs → i < length xs → x ≡ get_or xs i x → P x
  all_at P [] i x h l e = absurd (omega arith)
  all_at P (y ∷ xs) zero x h l e = subst P (sym e) h.0
  all_at P (y ∷ xs) (suc i) x h l e = all_at P xs i x h.1 (omega arith) e
