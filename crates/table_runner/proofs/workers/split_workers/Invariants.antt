use Rattle.std.{proofs.Common.{◌≡◌, ◌+◌, ◌<◌, ◌≤◌, length}, specs.Vec.vec_capacity}
use Rattle.table_rule.specs.Views.{held_in}
use Rattle.table_runner.specs.Running.{AreWorkers, RestOf}
use Rattle.table_runner.proofs.workers.split_workers.Given as goal

abbrev pub invariant-loop-i : goal.invariant-loop-i
invariant-loop-i l =
    RestOf l.table.table_id l.table.program l.table.cfg (l.i + 1) (held_in l.fn.hands.threads 0) l.hands
    × AreWorkers l.table.table_id l.table.program l.table.cfg l.workers.items × (length l.workers.items ≡ l.i) × (l.i < 9) × (8 ≤ vec_capacity l.workers)
