-- Of which kind the cell of a holder is, and its seat.
use Rattle.std.specs.Prelude.{◌≡◌, Bool, true, false}
use Rattle.solero_cell.specs.Calls.{Seated}
use Rattle.solero_cell.specs.CellViews.{newcomer}
use Rattle.cell_c.specs.declared.holder.Holder.{Holder}
use Rattle.cell_c.specs.declared.holder.Holder.TheVariants.{Cell, Latch}

abbrev pub is_latch : Holder → Bool
is_latch (Cell h) = false
is_latch (Latch h) = true

abbrev pub seat_of : Holder → Seated
seat_of (Cell h) = h.seat
seat_of (Latch h) = h.seat

-- both are seats of one cell
abbrev pub IsSameCell : Holder → Holder → Type 0
IsSameCell h k =
    ((seat_of k).table_id ≡ (seat_of h).table_id)
    × ((seat_of k).view.opening ≡ (seat_of h).view.opening) × (is_latch k ≡ is_latch h)

-- a new seat of the same cell, with what the seat knew
pub record IsSplitOff (h made : Holder) : Type 0 where
  pub table : (seat_of made).table_id ≡ (seat_of h).table_id
  pub kind : is_latch made ≡ is_latch h
  pub view : (seat_of made).view ≡ newcomer (seat_of h).view
