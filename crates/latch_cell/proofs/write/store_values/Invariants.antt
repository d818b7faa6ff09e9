use Rattle.std.proofs.Common.{◌≡◌, take, drop, Some}
use Rattle.latch_cell.proofs.write.store_values.Given as goal

abbrev pub invariant-loop-i : goal.invariant-loop-i
invariant-loop-i l =
    (l.seat.me.0 ≡ record l.fn.seat.me.0 { storing = Some (record { stored = take l.i l.values; left = drop l.i l.values }) })
    × (l.seat.table_id ≡ l.fn.seat.table_id) × (l.seat.me.1 ≡ l.fn.seat.me.1)
