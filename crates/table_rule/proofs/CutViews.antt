-- A view that is cut in two.
use Rattle.std.proofs.Common.{◌≡◌, ◌≢◌, ℕ, zero, suc, ◌⊎◌, inl, inr, ⊎_elim, List, [], ◌∷◌, ◌++◌, length, length-set, Some, None, refl, sym, ap, ◌∙◌, slice_set, arith, ◌==◌, ◌&&◌, if◌then◌else◌}
use Rattle.std.proofs.lemmas.Bool.Decides.{nat_tests}
use Rattle.atomic_table.proofs.Lists.{at_set, set_here, set_else, at_longer, at_last}
use Rattle.machine_types.specs.Threads.{Thread}
use Rattle.table_rule.{specs.Views.{View, held_in, IsHeld, AreShown}, proofs.Entries.{Seen, Was, still_shown, no_two, view_within}}
use lib.ListN.{get_elem?}
use mathlib.Core.{Logic.dite, Option.{some, some-injective, some-ne-none}}
use native.Mathlib.Decide.{ℕ_discrete}

at_end : (views : List View) (i : ℕ) (r w : View) → get_elem? (views ++ r ∷ []) i ≡ some w
    → (get_elem? views i ≡ some w) ⊎ ((i ≡ length views) × (r ≡ w))
at_end [] zero r w e = inr (refl, some-injective r w e)
at_end [] (suc i) r w e = absurd (some-ne-none w (sym e))
at_end (v ∷ vs) zero r w e = inl e
at_end (v ∷ vs) (suc i) r w e = ⊎_elim (λ k. inl k) (λ k. inr (ap suc k.0, k.1)) (at_end vs i r w e)

-- the entry t of the view id alone goes to another place
goes_on : (u t id k : ℕ) → u ≡ t → (if u == t && id == id then k else id) ≡ k
goes_on u t id k e = grind (arith, nat_tests)

other_stays : (u t i id k : ℕ) → u ≢ t → (if u == t && i == id then k else i) ≡ i
other_stays u t i id k n = grind (arith, nat_tests)

else_stays : (u t i id k : ℕ) → i ≢ id → (if u == t && i == id then k else i) ≡ i
else_stays u t i id k n = grind (arith, nat_tests)

-- the right view has the entry t of this one, and the left one has all others
record IsCut (t : ℕ) (v left right : View) : Type 0 where
  pub left_none : held_in left t ≡ None
  pub left_else : (u : ℕ) → u ≢ t → held_in left u ≡ held_in v u
  pub right_here : held_in right t ≡ held_in v t
  pub right_else : (u : ℕ) → u ≢ t → held_in right u ≡ None

module _ (seen : Seen) (t : ℕ) (left right : View) (is : IsCut t seen.v left right) where
  open seen use {threads, views, id, v, shown, at}
  open is use {left_none, left_else, right_here, right_else}

  abbrev cut : List View
  cut = slice_set views id left ++ right ∷ []

  -- where an entry goes
  abbrev to : (i u : ℕ) → ℕ
  to i u = if u == t && i == id then length views else i

  in_left : (i u : ℕ) (w : View) (z : Thread) → i ≡ id → left ≡ w → held_in w u ≡ Some z → Was seen to i u z
  in_left i u w z here same h = dite (ℕ_discrete u t)
      (λ e. absurd (no_two (held_in left u) z (ap (held_in left) e ∙ left_none) (ap (λ (r : View). held_in r u) same ∙ h)))
      (λ n. (id, here ∙ sym (other_stays u t id id (length views) n), v, at, sym (left_else u n) ∙ ap (λ (r : View). held_in r u) same ∙ h))

  in_right : (i u : ℕ) (w : View) (z : Thread) → i ≡ length views → right ≡ w → held_in w u ≡ Some z → Was seen to i u z
  in_right i u w z here same h = dite (ℕ_discrete u t)
      (λ e. (id, here ∙ sym (goes_on u t id (length views) e), v, at, ap (held_in v) e ∙ sym right_here ∙ ap (held_in right) (sym e) ∙ ap (λ (r : View). held_in r u) same ∙ h))
      (λ n. absurd (no_two (held_in right u) z (right_else u n) (ap (λ (r : View). held_in r u) same ∙ h)))

  in_cut : (i u : ℕ) (w : View) (z : Thread) → get_elem? cut i ≡ some w → held_in w u ≡ Some z → Was seen to i u z
  in_cut i u w z a h = ⊎_elim
      (λ k. ⊎_elim (λ m. in_left i u w z m.0 m.1 h) (λ m. (i, sym (else_stays u t i id (length views) m.0), w, m.1, h)) (at_set views id i left w k))
      (λ k. in_right i u w z (k.0 ∙ length-set views id left) k.1 h) (at_end (slice_set views id left) i right w a)

  long : get_elem? cut (length views) ≡ some right
  long = at_last (slice_set views id left) right (length views) (length-set views id left)

  held_cut : (u : ℕ) (z : Thread) → IsHeld views u z → IsHeld cut u z
  held_cut u z h = dite (ℕ_discrete h.0 id) here away
    where
      stays : (i : ℕ) (w : View) → get_elem? (slice_set views id left) i ≡ some w → get_elem? cut i ≡ some w
      stays i w a = at_longer (slice_set views id left) (right ∷ []) i w a

      here : h.0 ≡ id → IsHeld cut u z
      here e =
          let one : v ≡ h.1 = some-injective v h.1 (sym at ∙ ap (get_elem? views) (sym e) ∙ h.2) in
          let mine : held_in v u ≡ Some z = ap (λ (r : View). held_in r u) one ∙ h.3 in
          dite (ℕ_discrete u t)
          (λ m. (length views, right, long, ap (held_in right) m ∙ right_here ∙ ap (held_in v) (sym m) ∙ mine))
          (λ n. (id, left, stays id left (set_here views id left (view_within views id v at)), left_else u n ∙ mine))

      away : h.0 ≢ id → IsHeld cut u z
      away n = (h.0, h.1, stays h.0 h.1 (set_else views id h.0 left n ∙ h.2), h.3)

pub cut_shows : (threads : List Thread) (views : List View) (id t : ℕ) (v left right : View) → AreShown threads views → get_elem? views id ≡ some v
    → held_in left t ≡ None → ((u : ℕ) → u ≢ t → held_in left u ≡ held_in v u) → held_in right t ≡ held_in v t → ((u : ℕ) → u ≢ t → held_in right u ≡ None)
    → AreShown threads (slice_set views id left ++ right ∷ [])
cut_shows threads views id t v left right shown at none others here only =
    let seen : Seen = record { threads = threads; views = views; id = id; v = v; shown = shown; at = at } in
    let is : IsCut t v left right = record { left_none = none; left_else = others; right_here = here; right_else = only } in
    still_shown seen (cut seen t left right is) (to seen t left right is) (in_cut seen t left right is) (held_cut seen t left right is)
