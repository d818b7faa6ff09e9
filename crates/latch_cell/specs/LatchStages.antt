-- A seat at a latch cell's table.
use Rattle.std.specs.Prelude.{◌≡◌, ◌<◌, ◌≤◌, length}
use Rattle.atomic_table.specs.Seated.{TableId}
use Rattle.solero_cell.specs.declared.views.Record.{Record}
use Rattle.solero_cell.specs.declared.views.View.{View}
use Rattle.latch_cell.specs.Copies.{latch_words}

-- the view is that of a seat at the table, which has the words of a latch cell
pub record IsLatchSeatAt (table : TableId) (opening : Record) (seat : TableId) (v : View)
    : Type 0 where
  pub of : seat ≡ table
  pub opening_is : v.opening ≡ opening
  pub share : 0 < v.share.parts
  pub words : table.words ≡ latch_words (length opening.values)
  pub few : length opening.values ≤ 64
