use Rattle.std.proofs.Common.{◌≡◌, length}
use Rattle.cell_runner.specs.HandsOfCell.{AreReady, IsFreshSeat}
use Rattle.cell_runner.proofs.workers.split_hands.Given as goal

abbrev pub invariant-loop : goal.invariant-loop
invariant-loop l =
    IsFreshSeat l.table.shared.table_id l.table.shared.key l.counter l.seat
    × AreReady l.table.shared.table_id l.table.shared.key l.hands.items × (length l.hands.items ≡ l.counter)
