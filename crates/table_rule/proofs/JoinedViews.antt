-- Two views that are joined.
use Rattle.std.proofs.Common.{◌≡◌, ◌≢◌, ℕ, ◌⊎◌, ⊎_elim, List, Option, Some, None, refl, sym, ap, ◌∙◌, slice_set, arith, ◌==◌, if◌then◌else◌}
use Rattle.std.proofs.lemmas.Bool.Decides.{nat_tests}
use Rattle.atomic_table.proofs.Lists.{at_set, set_here, set_else}
use Rattle.machine_types.specs.Threads.{Thread}
use Rattle.table_rule.{specs.Views.{View, held_in, IsHeld, AreShown}, proofs.Entries.{Seen, Was, still_shown, no_two, view_within}}
use lib.ListN.{get_elem?}
use mathlib.Core.{Logic.dite, Option.{some, some-injective}}
use native.Mathlib.Decide.{ℕ_discrete}

goes : (other id : ℕ) → (if other == other then id else other) ≡ id
goes other id = grind (arith, nat_tests)

stays : (i other id : ℕ) → i ≢ other → (if i == other then id else i) ≡ i
stays i other id n = grind (arith, nat_tests)

-- a view has the threads of two, and of both at one number that of the first
record IsBoth (v w both : View) : Type 0 where
  pub from : (u : ℕ) (z : Thread) → held_in both u ≡ Some z → (held_in v u ≡ Some z) ⊎ (held_in w u ≡ Some z)
  pub to_left : (u : ℕ) (z : Thread) → held_in v u ≡ Some z → held_in both u ≡ Some z
  pub to_right : (u : ℕ) (z : Thread) → held_in v u ≡ None → held_in w u ≡ Some z → held_in both u ≡ Some z

module _ (seen : Seen) (other : ℕ) (w both spent : View) (apart : other ≢ seen.id) (at_other : get_elem? seen.views other ≡ some w)
    (is : IsBoth seen.v w both) (none : (u : ℕ) → held_in spent u ≡ None) where
  open seen use {threads, views, id, v, shown, at}
  open is use {from, to_left, to_right}

  abbrev joined : List View
  joined = slice_set (slice_set views id both) other spent

  -- where an entry goes
  abbrev to : (i u : ℕ) → ℕ
  to i u = if i == other then id else i

  in_joined : (i u : ℕ) (r : View) (z : Thread) → get_elem? joined i ≡ some r → held_in r u ≡ Some z → Was seen to i u z
  in_joined i u r z a h = ⊎_elim
      (λ k. absurd (no_two (held_in r u) z (ap (λ (q : View). held_in q u) (sym k.1) ∙ none u) h))
      (λ k. ⊎_elim
      (λ m. ⊎_elim (λ l. (id, m.0 ∙ sym (stays id other id (λ e. apart (sym e))), v, at, l)) (λ l. (other, m.0 ∙ sym (goes other id), w, at_other, l)) (from u z (ap (λ (q : View). held_in q u) m.1 ∙ h)))
      (λ m. (i, sym (stays i other id k.0), r, m.1, h)) (at_set views id i both r k.1))
      (at_set (slice_set views id both) other i spent r a)

  both_there : get_elem? joined id ≡ some both
  both_there = set_else (slice_set views id both) other id spent (λ e. apart (sym e))
      ∙ set_here views id both (view_within views id v at)

  held_joined : (u : ℕ) (z : Thread) → IsHeld views u z → IsHeld joined u z
  held_joined u z h = dite (ℕ_discrete h.0 id) here (λ n. dite (ℕ_discrete h.0 other) (there_too n) (away n))
    where
      here : h.0 ≡ id → IsHeld joined u z
      here e =
          let one : v ≡ h.1 = some-injective v h.1 (sym at ∙ ap (get_elem? views) (sym e) ∙ h.2) in
          (id, both, both_there, to_left u z (ap (λ (r : View). held_in r u) one ∙ h.3))

      by_left : (o : Option Thread) → held_in v u ≡ o → h.0 ≢ id → held_in w u ≡ Some z → IsHeld joined u z
      by_left None e n k = (id, both, both_there, to_right u z e k)
      by_left (Some y) e n k = absurd (n (shown.once h.0 id u h.1 v z y h.2 at h.3 e))

      there_too : h.0 ≢ id → h.0 ≡ other → IsHeld joined u z
      there_too n e =
          let one : w ≡ h.1 = some-injective w h.1 (sym at_other ∙ ap (get_elem? views) (sym e) ∙ h.2) in
          by_left (held_in v u) refl n (ap (λ (r : View). held_in r u) one ∙ h.3)

      away : h.0 ≢ id → h.0 ≢ other → IsHeld joined u z
      away n m = (h.0, h.1, set_else (slice_set views id both) other h.0 spent m ∙ set_else views id h.0 both n ∙ h.2, h.3)

pub joined_shows : (threads : List Thread) (views : List View) (id other : ℕ) (v w both spent : View) → AreShown threads views → get_elem? views id ≡ some v
    → other ≢ id → get_elem? views other ≡ some w → ((u : ℕ) (z : Thread) → held_in both u ≡ Some z → (held_in v u ≡ Some z) ⊎ (held_in w u ≡ Some z))
    → ((u : ℕ) (z : Thread) → held_in v u ≡ Some z → held_in both u ≡ Some z) → ((u : ℕ) (z : Thread) → held_in v u ≡ None → held_in w u ≡ Some z → held_in both u ≡ Some z)
    → ((u : ℕ) → held_in spent u ≡ None) → AreShown threads (slice_set (slice_set views id both) other spent)
joined_shows threads views id other v w both spent shown at apart at_other from left right none =
    let seen : Seen = record { threads = threads; views = views; id = id; v = v; shown = shown; at = at } in
    let is : IsBoth v w both = record { from = from; to_left = left; to_right = right } in
    still_shown seen (slice_set (slice_set views id both) other spent) (λ i t. if i == other then id else i)
    (in_joined seen other w both spent apart at_other is none) (held_joined seen other w both spent apart at_other is none)
