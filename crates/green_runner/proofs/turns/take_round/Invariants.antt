use Rattle.green_runner.proofs.Turning.{MidRound}
use Rattle.green_runner.proofs.turns.take_round.Given as goal

abbrev pub invariant-loop-i : goal.invariant-loop-i
invariant-loop-i l = MidRound l.fn.machine l.turn l.i l.some l.machine
