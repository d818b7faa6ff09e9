use Rattle.green_runner.proofs.Turning.{MidTurn}
use Rattle.green_runner.proofs.turns.take_turn.Given as goal

abbrev pub invariant-loop-made : goal.invariant-loop-made
invariant-loop-made l = MidTurn l.fn.machine l.t l.made l.machine
