use Rattle.std.proofs.Common.{◌≡◌}
use Rattle.guard_analysis.specs.CallGraph.{edges_before}
use Rattle.guard_analysis.proofs.call_graph.add_calls.Given as goal

abbrev pub invariant-loop-i : goal.invariant-loop-i
invariant-loop-i l = l.graph ≡ edges_before l.p l.m l.tags.frames l.a l.fn.graph l.i
