use Rattle.std.proofs.Common.{◌≡◌, length, take}
use Rattle.latch_cell.proofs.read.load_values.Given as goal

abbrev pub invariant-loop-i : goal.invariant-loop-i
invariant-loop-i l =
    (l.seat.me.0 ≡ record l.fn.seat.me.0 { loaded = take l.i l.values }) × (length l.values ≡ length l.fn.values)
    × (l.seat.table_id ≡ l.fn.seat.table_id) × (l.seat.me.1 ≡ l.fn.seat.me.1)
