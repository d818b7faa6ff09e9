use Rattle.std.proofs.Common.{◌+◌, length}
use Rattle.table_rule.specs.Views.{held_in}
use Rattle.table_runner.specs.Running.{AreWorkers, RestOf}
use Rattle.table_runner.proofs.workers.join_workers.Given as goal

abbrev pub invariant-loop-worker : goal.invariant-loop-worker
invariant-loop-worker l =
    RestOf l.table.table_id l.table.program l.table.cfg (length l.workers.items + 1) (held_in l.fn.hands.threads 0) l.hands
    × AreWorkers l.table.table_id l.table.program l.table.cfg l.workers.items

abbrev pub decreases-loop-worker : goal.decreases-loop-worker
decreases-loop-worker l = length l.workers.items
