use Rattle.green_runner.specs.Passes.{MakeEvents}
use Rattle.green_runner.proofs.passing.take_turn.Given as goal

abbrev pub invariant-loop-made : goal.invariant-loop-made
invariant-loop-made l = MakeEvents l.t l.made l.fn.hands l.hands
