use Rattle.std.proofs.Common.{◌≡◌, ◌+◌}
use Rattle.table_rule.specs.Views.{held_in}
use Rattle.table_runner.specs.Running.{AreDeadBelow, RunsHere}
use Rattle.table_runner.proofs.running.run_left.Given as goal

abbrev pub invariant-loop-i : goal.invariant-loop-i
invariant-loop-i l =
    RunsHere l.table.table_id l.table.program l.table.cfg l.hands
    × (held_in l.hands.threads 0 ≡ held_in l.fn.hands.threads 0) × AreDeadBelow (l.i + 1) l.hands.threads
