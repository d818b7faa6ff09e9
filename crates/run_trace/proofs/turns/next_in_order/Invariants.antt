use Rattle.std.proofs.Common.{◌≡◌, drop}
use Rattle.machine_types.specs.Schedules.{ordered}
use Rattle.run_trace.proofs.turns.next_in_order.Given as goal

-- the numbers so far are of no live worker
abbrev pub invariant-loop-place : goal.invariant-loop-place
invariant-loop-place l = ordered l.machine.core (drop l.place l.order) ≡ ordered l.machine.core (drop l.i l.order)
