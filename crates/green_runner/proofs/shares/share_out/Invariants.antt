use Rattle.std.{proofs.Common.{◌≡◌, ◌+◌, ◌<◌, ◌≤◌, length, min}, specs.{List.All, Vec.vec_capacity}}
use Rattle.table_rule.specs.Views.{held_in}
use Rattle.table_runner.specs.{Handed.IsTableOf, Running.RestOf}
use Rattle.green_runner.specs.Shares.{AreShared}
use Rattle.green_runner.proofs.shares.share_out.Given as goal

abbrev pub invariant-loop-i : goal.invariant-loop-i
invariant-loop-i l =
    RestOf l.table.table_id l.table.program l.table.cfg (l.i + 1) (held_in l.fn.hands.threads 0) l.hands
    × All (IsTableOf l.table.table_id l.table.program l.table.cfg) l.shares.items
    × AreShared (l.i + 1) l.shares.items × (length l.shares.items ≤ l.i) × (l.i < 9)
    × (length l.shares.items ≡ min l.workers l.i) × (8 ≤ vec_capacity l.shares)
