use Rattle.std.proofs.Common.{◌≡◌}
use Rattle.laws_states.specs.WorkLeft.{work_left}
use Rattle.table_runner.specs.Going.{IsLaterThread}
use Rattle.table_runner.proofs.events.go_on.Given as goal

abbrev pub invariant-loop-s : goal.invariant-loop-s
invariant-loop-s l =
    IsLaterThread (record { program = l.p; cfg = l.table.cfg; number = l.t; state = l.fn.s }) l.fn.seat.view l.s l.seat.view
    × (l.seat.table_id ≡ l.fn.seat.table_id) × (l.seat.id ≡ l.fn.seat.id)

abbrev pub decreases-loop-s : goal.decreases-loop-s
decreases-loop-s l = work_left l.s
