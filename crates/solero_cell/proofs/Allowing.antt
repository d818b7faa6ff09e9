-- What a step on a word asks of a rule over words and views, by what it leads to.
use Rattle.std.proofs.{Common.{◌≡◌, ℕ, ◌<◌, List, sym, subst, refl, slice_index, slice_set}, lemmas.List.set-get_or}
use Rattle.atomic_table.specs.Table.{State, Me, Allows, keeps}
use Rattle.solero_cell.specs.declared.views.View.{View}
use lib.ListN.{get_elem?}
use mathlib.Core.Option.{some}

-- a seat that has a share, and the views of its table
pub record Seat (id : ℕ) (v : View) : Type 0 where
  pub views : List View
  pub at : get_elem? views id ≡ some v
  pub parts : 0 < v.share.parts

module _ (Holds : List ℕ → List View → Type 0) where
  abbrev pub by_words : {S : Type 0} → State S View → Type 0
  by_words s = Holds s.words s.views

  -- what a step that leaves the words leads to: the rule holds with another view, and it tells this
  abbrev pub LooksTo : (ws : List ℕ) (views : List View) (id : ℕ) → (View → Type 0) → Type 0
  LooksTo ws views id told = (w : View) × Holds ws (slice_set views id w) × told w

  -- what a step that writes a word leads to
  abbrev pub LeadsTo : (ws : List ℕ) (views : List View) (id i x : ℕ) → (View → Type 0) → Type 0
  LeadsTo ws views id i x told = (w : View) × Holds (slice_set ws i x) (slice_set views id w) × told w

  pub any_load_allows : {S : Type 0} (slots id i : ℕ) (me : Me S View) (told : ℕ → View → Type 0) → 0 < me.0.share.parts
      → ((ws : List ℕ) (seat : Seat id me.0) → Holds ws seat.views → LooksTo ws seat.views id (told (slice_index ws i)))
      → Allows by_words slots id me i (λ n. n) (λ n w. told n w.0 × (w.1 ≡ me.1))
  any_load_allows slots id i me told parts f s run long at small =
      let r = f s.words (record { views = s.views; at = at; parts = parts }) run in
      (r.0, keeps, tt, subst (λ ws. Holds ws (slice_set s.views id r.0)) (sym (set-get_or s.words i 0)) r.1, (r.2, refl))

  pub any_write_allows : {S : Type 0} (slots id i : ℕ) (f : ℕ → ℕ) (me : Me S View) (told : ℕ → View → Type 0) → 0 < me.0.share.parts
      → ((ws : List ℕ) (seat : Seat id me.0) → Holds ws seat.views → LeadsTo ws seat.views id i (f (slice_index ws i)) (told (slice_index ws i)))
      → Allows by_words slots id me i f (λ n w. told n w.0 × (w.1 ≡ me.1))
  any_write_allows slots id i f me told parts g s run long at small =
      let r = g s.words (record { views = s.views; at = at; parts = parts }) run in (r.0, keeps, tt, r.1, (r.2, refl))
