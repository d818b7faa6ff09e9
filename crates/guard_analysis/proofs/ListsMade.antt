-- Lists that are made from the front on: how long they are, and what stands at each place.
use Rattle.std.proofs.Common.{◌≡◌, ◌<◌, ◌≤◌, ◌≢◌, ⊎_elim, ℕ, zero, suc, ◌+◌, List, [], ◌∷◌, ◌++◌, length, refl, sym, ap, ◌∙◌, subst, arith, slice_index_or}
use Rattle.std.proofs.lemmas.{Bool.cases_eq, List.{length-append, get_or_append_left, get_or_past, get_or_push}}

module _ {A : Type 0} (item : ℕ → A) (made : ℕ → List A) (first : made 0 ≡ []) (next : (n : ℕ) → made (suc n) ≡ made n ++ item n ∷ []) where
  pub made_long : (n : ℕ) → length (made n) ≡ n
  made_long zero = ap (λ (xs : List A). length xs) first
  made_long (suc n) = ap (λ (xs : List A). length xs) (next n) ∙ length-append (made n) (item n ∷ []) ∙ ap (λ (k : ℕ). k + 1) (made_long n) ∙ omega arith

  pub made_at : (none : A) (n i : ℕ) → i < n → slice_index_or (made n) i none ≡ item i
  made_at none zero i l = absurd (omega (arith, l))
  made_at none (suc n) i l = ap (λ (xs : List A). slice_index_or xs i none) (next n) ∙ ⊎_elim
      (λ (q : i ≡ n). get_or_push (made n) (item n) none i (made_long n ∙ sym q) ∙ ap item (sym q))
      (λ (q : i ≢ n). let low : i < n = omega (arith, l, q) in get_or_append_left (made n) (item n ∷ []) none i (subst (λ (k : ℕ). i < k) (sym (made_long n)) low) ∙ made_at none n i low)
      (cases_eq i n)

  pub made_past : (none : A) (n i : ℕ) → n ≤ i → slice_index_or (made n) i none ≡ none
  made_past none n i l = get_or_past (made n) i none (subst (λ (k : ℕ). k ≤ i) (sym (made_long n)) l)
