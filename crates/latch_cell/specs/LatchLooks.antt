-- What the rule of a latch cell's table says of a look that a step adds.
use Rattle.std.specs.Prelude.{◌≡◌, ℕ, List, [], ◌∷◌, ◌++◌, slice_index, slice_set}
use Rattle.std.specs.List.{sum_by}
use mathlib.Core.Option.{some}
use lib.ListN.{get_elem?}
use Rattle.solero_cell.specs.declared.views.Moment.{Moment}
use Rattle.solero_cell.specs.declared.views.Record.{Record}
use Rattle.solero_cell.specs.declared.views.View.{View}
use Rattle.solero_cell.specs.CellRules.{looks_at}
use Rattle.solero_cell.specs.Moments.{word_of_moment}
use Rattle.latch_cell.specs.Copies.{latch_count}
use Rattle.latch_cell.specs.LatchRules.{HasTwoCopies, count_of}

-- Whatever a step of a seat does: if it keeps the rule and adds one look to what the seat tells,
-- then no look had this place before it, and behind it the lock word and the count are those of the
-- look.
abbrev pub AddedLatchLooksAreTrue : Type 0
AddedLatchLooksAreTrue =
    (opening : Record) (words now : List ℕ) (views : List View) (seat place : ℕ) (m : Moment)
    (v w : View) → HasTwoCopies opening words views → get_elem? views seat ≡ some v
    → w.looks ≡ v.looks ++ record { place = place; moment = m } ∷ []
    → HasTwoCopies opening now (slice_set views seat w)
    → (sum_by (looks_at place) views ≡ 0) × (slice_index now 0 ≡ word_of_moment m)
    × (latch_count now ≡ count_of m)
