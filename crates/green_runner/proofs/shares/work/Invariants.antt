use Rattle.table_runner.specs.Running.{AreSame}
use Rattle.green_runner.proofs.shares.work.Given as goal

abbrev pub invariant-loop : goal.invariant-loop
invariant-loop g l = AreSame l.fn.hands l.hands
