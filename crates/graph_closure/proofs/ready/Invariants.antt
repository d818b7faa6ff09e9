use Rattle.std.proofs.Common.{◌≡◌}
use Rattle.graph_closure.specs.Chains.{zeros}
use Rattle.graph_closure.proofs.ready.Given as goal

abbrev pub invariant-loop-a : goal.invariant-loop-a
invariant-loop-a l = l.work.items ≡ zeros l.need l.a
