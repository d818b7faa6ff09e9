use Rattle.std.proofs.Common.{◌≡◌}
use Rattle.cell_runner.specs.HandsOfCell.{IsCountedHand, HasNotEnded, IsSameSeat}
use Rattle.cell_runner.proofs.hands.Hand.work.Given as goal

abbrev pub invariant-loop : goal.invariant-loop
invariant-loop l =
    IsSameSeat l.fn.self.seat l.self.seat × IsCountedHand l.self × HasNotEnded l.self × (l.self.tally.writes ≡ l.counter)
    × (l.self.tally.reads ≡ l.counter)
