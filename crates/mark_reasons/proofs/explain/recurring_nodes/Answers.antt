use Rattle.std.proofs.Common.{ℕ, ◌*◌, length, ap}
use Rattle.guard_analysis.{specs.CallGraph.call_graph, proofs.{CalleesFound.graph_shown, GraphBounds.is_graph}}
use Rattle.mark_reasons.proofs.explain.recurring_nodes.Goals as goal

pub recurring-requires-clause-graph : goal.recurring-requires-clause-graph
recurring-requires-clause-graph c =
    graph_shown (3 * length c.args.p.now.methods) (3 * c.len.result) c.in_ok-graph.graph (call_graph c.args.p.now c.args.tags.now) c.as_slice.result.now c.as_slice-2.result.now c.in_ok-graph.ensures c.as_slice.ensures c.as_slice-2.ensures
    (ap (λ (n : ℕ). 3 * n) c.len.ensures) (is_graph c.args.p.now c.args.tags.now c.requires.program)
