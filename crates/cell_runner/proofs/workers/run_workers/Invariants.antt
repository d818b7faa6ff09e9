use Rattle.std.proofs.Common.{◌-◌, ◌≤◌, length}
use Rattle.cell_runner.specs.HandsOfCell.{HasGathered, HaveWorked, IsShareLeft}
use Rattle.cell_runner.proofs.workers.run_workers.Given as goal

abbrev pub invariant-loop-hand : goal.invariant-loop-hand
invariant-loop-hand g l =
    HasGathered l.table.shared.table_id l.table.shared.key (l.workers - length l.hands.items) l.rounds l.turns l.all
    × IsShareLeft (length l.hands.items) l.all × HaveWorked l.table.shared.table_id l.table.shared.key l.rounds l.turns l.hands.items
    × (length l.hands.items ≤ l.workers)

abbrev pub decreases-loop-hand : goal.decreases-loop-hand
decreases-loop-hand g l = length l.hands.items
