use Rattle.std.proofs.Common.{◌≡◌}
use Rattle.guard_analysis.specs.Faults.{breaking_nodes}
use Rattle.guard_analysis.proofs.callees.breaking_nodes.Given as goal

abbrev pub invariant-loop-a : goal.invariant-loop-a
invariant-loop-a l = l.breaking.items ≡ breaking_nodes l.p l.uses l.tags l.class l.a
