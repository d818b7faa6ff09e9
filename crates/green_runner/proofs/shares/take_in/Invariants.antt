use Rattle.std.{proofs.Common.{◌≡◌, length}, specs.List.All}
use Rattle.table_rule.specs.Views.{held_in}
use Rattle.table_runner.specs.Handed.{IsTableOf}
use Rattle.green_runner.specs.Shares.{AreTogether}
use Rattle.green_runner.proofs.shares.take_in.Given as goal

abbrev pub invariant-loop-share : goal.invariant-loop-share
invariant-loop-share l =
    IsTableOf l.table.table_id l.table.program l.table.cfg l.hands
    × All (IsTableOf l.table.table_id l.table.program l.table.cfg) l.shares.items
    × (held_in l.hands.threads 0 ≡ held_in l.fn.hands.threads 0)
    × AreTogether l.p.program.workers l.hands l.shares.items

abbrev pub decreases-loop-share : goal.decreases-loop-share
decreases-loop-share l = length l.shares.items
