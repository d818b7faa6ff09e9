-- A set that covers the runs from a state has each state at which a run rests.
use Rattle.std.proofs.Common.{◌≡◌, ◌≢◌, ℕ, Bool, true, ◌⊎◌, inl, inr, ⊎_elim, List, [], ◌∷◌, ◌++◌, Option, Some, None, refl, sym, ap, ◌∙◌, subst, option_and_then}
use Rattle.plain_orders.specs.Orders.{all_steps, IsLocalRun, LeadsLocally, AreLocal, Covers, HasNoStep}
use mathlib.Core.Logic.{dite}
use native.Mathlib.Decide.{ℕ_discrete}

module _ {S A : Type 0} (who : A → ℕ) (step : S → A → Option S) (local : S → A → Bool)
    (own : AreLocal who step local) where
  abbrev Local : S → List A → S → Type 0
  Local s xs r = IsLocalRun step local s xs r

  abbrev Leads : S → S → Type 0
  Leads s r = LeadsLocally step local s r

  one_state : (o : Option S) (x y : S) → o ≡ Some x → o ≡ Some y → x ≡ y
  one_state o x y e f = cc

  joined : (s r z : S) (xs bs : List A) → Local s xs r → Local r bs z → Local s (xs ++ bs) z
  joined s r z [] bs v w = subst (λ (q : S). Local q bs z) (sym v) w
  joined s r z (a ∷ xs) bs v w = (v.0, v.1, v.2, joined v.1 r z xs bs v.3 w)

  -- the step is one of the local ones, or it can be made behind them
  abbrev After : (r y : S) → A → Type 0
  After r y b = Leads y r ⊎ ((q : S) × (step r b ≡ Some q) × Leads y q)

  first : (s x : S) (a : A) (r : S) → local s a ≡ true → step s a ≡ Some x → Leads x r → Leads s r
  first s x a r l e v = (a ∷ v.0, (l, x, e, v.1))

  behind : (s r y : S) (xs : List A) (b : A) → Local s xs r → step s b ≡ Some y → After r y b
  behind s r y [] b v e = inr (y, subst (λ (q : S). step q b ≡ Some y) v e, ([], refl))
  behind s r y (a ∷ xs) b v e = dite (ℕ_discrete (who a) (who b)) same (λ n. other n (λ z w f. behind v.1 r z xs b w f))
    where
      same : who a ≡ who b → After r y b
      same w =
          let one : a ≡ b = own.alone s y a b v.0 w e in
          let here : v.1 ≡ y = one_state (step s b) v.1 y (subst (λ (c : A). step s c ≡ Some v.1) one v.2) e in
          inl (xs, subst (λ (q : S). Local q xs r) here v.3)

      other : who a ≢ who b → ((z : S) → Local v.1 xs r → step v.1 b ≡ Some z → After r z b) → After r y b
      other n later =
          let swap = own.swaps s v.1 y a b v.0 n v.2 e in
          ⊎_elim
          (λ (k : Leads swap.1 r). inl (first y swap.1 a r swap.0 swap.2 k))
          (λ (k : (q : S) × (step r b ≡ Some q) × Leads swap.1 q). inr (k.0, k.1, first y swap.1 a k.0 swap.0 swap.2 k.2))
          (later swap.1 v.3 swap.3)

  split : (s y : S) (b : A) (bs : List A) (o : Option S) → step s b ≡ o → all_steps step s (b ∷ bs) ≡ Some y
      → (q : S) × (step s b ≡ Some q) × (all_steps step q bs ≡ Some y)
  split s y b bs None e f = absurd (none_some y (sym (ap (option_and_then (λ q. all_steps step q bs)) e) ∙ f))
    where
      none_some : (z : S) → None ≡ Some z → ⊥
      none_some z g = cc
  split s y b bs (Some q) e f = (q, e, sym (ap (option_and_then (λ r. all_steps step r bs)) e) ∙ f)

  module _ (start : S) (seen : S → Type 0) (covers : Covers step local start seen) where
    abbrev Seen : S → Type 0
    Seen s = (z : S) × Leads s z × seen z

    along : (s r y : S) (xs bs : List A) → Local s xs r → seen r → all_steps step s bs ≡ Some y → Seen y
    along s r y xs [] v k e = (r, (xs, subst (λ (q : S). Local q xs r) (one_state (Some s) s y refl e) v), k)
    along s r y xs (b ∷ bs) v k e =
        let go = split s y b bs (step s b) refl e in
        ⊎_elim
        (λ (m : Leads go.0 r). along go.0 r y m.0 bs m.1 k go.2)
        (λ (m : (q : S) × (step r b ≡ Some q) × Leads go.0 q).
        let next = covers.goes_on r m.0 b k m.1 in
        along go.0 next.0 y (m.2.0 ++ next.1.0) bs (joined go.0 m.0 next.0 m.2.0 next.1.0 m.2.1 next.1.1) next.2 go.2)
        (behind s r go.0 xs b v go.1)

    -- behind each run local steps lead to a state that was seen
    pub each_run_is_seen : (y : S) (xs : List A) → all_steps step start xs ≡ Some y → Seen y
    each_run_is_seen y xs e =
        let b = covers.begins in along start b.0 y b.1.0 xs b.1.1 b.2 e

    rests : (y z : S) (xs : List A) → HasNoStep step y → Local y xs z → y ≡ z
    rests y z [] rest v = v
    rests y z (a ∷ xs) rest v = absurd (never (step y a) v.1 (rest a) v.2)
      where
        never : (o : Option S) (x : S) → o ≡ None → o ≡ Some x → ⊥
        never o x e f = cc

    -- so each state at which a run rests was seen
    pub each_rest_is_seen : (y : S) (xs : List A) → all_steps step start xs ≡ Some y → HasNoStep step y → seen y
    each_rest_is_seen y xs e rest =
        let s = each_run_is_seen y xs e in
        subst seen (sym (rests y s.0 s.1.0 rest s.1.1)) s.2
