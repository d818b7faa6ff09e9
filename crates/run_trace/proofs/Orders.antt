-- The next number of an order: a live worker has its turn, and any other is passed over.
use Rattle.std.proofs.Common.{◌≡◌, ◌<◌, ◌≤◌, ℕ, zero, suc, ◌+◌, Bool, true, false, List, [], ◌∷◌, length, refl, ap, ◌∙◌, arith, drop, nat_lt, slice_index_or, if◌then◌else◌}
use Rattle.std.proofs.lemmas.{Bool.and_parts, List.drop_more}
use Rattle.machine_types.specs.{Core.{Core, Of, lives}, Schedules.{Ordered, is_live_worker, ordered, turn_of}}

module _ (s : Core) (order : List ℕ) (place t : ℕ) (there : place < length order) (is : slice_index_or order place 0 ≡ t) where
  here : drop place order ≡ t ∷ drop (place + 1) order
  here = drop_more order place 0 there ∙ ap (λ (u : ℕ). u ∷ drop (place + 1) order) is

  pub has_turn : is_live_worker s t ≡ true → ordered s (drop place order) ≡ turn_of (Of t) (Ordered (drop (place + 1) order))
  has_turn live = ap (ordered s) here ∙ ap (λ (b : Bool). if b then turn_of (Of t) (Ordered (drop (place + 1) order)) else ordered s (drop (place + 1) order)) live

  pub has_no_turn : is_live_worker s t ≡ false → ordered s (drop place order) ≡ ordered s (drop (place + 1) order)
  has_no_turn dead = ap (ordered s) here ∙ ap (λ (b : Bool). if b then turn_of (Of t) (Ordered (drop (place + 1) order)) else ordered s (drop (place + 1) order)) dead

pub worker_lives : (s : Core) (t : ℕ) → is_live_worker s t ≡ true → lives s t ≡ true
worker_lives s t e = (and_parts (nat_lt 0 t) (lives s t) e).1
