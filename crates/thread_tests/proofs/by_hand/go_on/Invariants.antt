use Rattle.table_runner.specs.Running.{AreSame}
use Rattle.thread_tests.proofs.by_hand.go_on.Given as goal

abbrev pub invariant-loop : goal.invariant-loop
invariant-loop l = AreSame l.fn.hands l.hands
