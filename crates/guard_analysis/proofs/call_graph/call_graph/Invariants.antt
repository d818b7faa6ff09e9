use Rattle.std.proofs.Common.{◌≡◌}
use Rattle.guard_analysis.specs.CallGraph.{graph_before}
use Rattle.guard_analysis.proofs.call_graph.call_graph.Given as goal

abbrev pub invariant-loop-a : goal.invariant-loop-a
invariant-loop-a l = l.graph ≡ graph_before l.p l.tags l.a
