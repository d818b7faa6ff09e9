use Rattle.green_runner.proofs.Passes.{MidPass}
use Rattle.green_runner.proofs.passing.pass.Given as goal

abbrev pub invariant-loop-t : goal.invariant-loop-t
invariant-loop-t l = MidPass l.fn.hands l.turn l.t l.some l.hands
