use Rattle.std.proofs.Common.{◌≡◌, ◌*◌, ◌≤◌, ◌∙◌, length, ap, arith}
use Rattle.guard_analysis.{specs.CallGraph.call_graph, proofs.CalleesFound.{breaking_long, callees_shown, graph_shown}}
use Rattle.guard_analysis.proofs.callees.Callees.of.Goals as goal

pub leading-requires-clause-graph : goal.leading-requires-clause-graph
leading-requires-clause-graph c =
    graph_shown (3 * length c.args.p.now.methods) (length c.as_slice-3.result.now) c.in_ok-graph.graph (call_graph c.args.p.now c.args.tags.now) c.as_slice.result.now c.as_slice-2.result.now c.in_ok-graph.ensures c.as_slice.ensures c.as_slice-2.ensures
    (ap length c.as_slice-3.ensures.value ∙ ap length c.in_ok-breaking.ensures ∙ breaking_long c.args.p.now c.args.uses.now c.args.tags.now c.args.class (3 * length c.args.p.now.methods)) c.requires.graph

pub leading-requires-clause-nodes : goal.leading-requires-clause-nodes
leading-requires-clause-nodes c =
    let long : length c.as_slice-3.result.now ≡ 3 * length c.args.p.now.methods = ap length c.as_slice-3.ensures.value ∙ ap length c.in_ok-breaking.ensures ∙ breaking_long c.args.p.now c.args.uses.now c.args.tags.now c.args.class (3 * length c.args.p.now.methods) in
    let few : length c.args.p.now.methods ≤ 67108864 = c.requires.few in
    omega (arith, long, few)

pub recurring-requires-clause-graph : goal.recurring-requires-clause-graph
recurring-requires-clause-graph c =
    graph_shown (3 * length c.args.p.now.methods) (3 * c.len.result) c.in_ok-graph.graph (call_graph c.args.p.now c.args.tags.now) c.as_slice-4.result.now c.as_slice-5.result.now c.in_ok-graph.ensures c.as_slice-4.ensures c.as_slice-5.ensures
    (ap (λ n. 3 * n) c.len.ensures) c.requires.graph

pub returns-clause-are : goal.returns-clause-are
returns-clause-are c = callees_shown c.args.p.now c.args.uses.now c.args.tags.now c.args.class c.len.result c.in_ok-graph.graph c.as_slice.result.now c.as_slice-2.result.now c.as_slice-4.result.now c.as_slice-5.result.now c.in_ok-breaking.breaking.items c.as_slice-3.result.now
    c.in_ok-breaks.breaks.items c.in_ok-recurs.recurs.items c.requires.program c.in_ok-graph.ensures c.as_slice.ensures c.as_slice-2.ensures c.as_slice-4.ensures c.as_slice-5.ensures c.len.ensures c.in_ok-breaking.ensures c.as_slice-3.ensures.value c.in_ok-breaks.ensures c.in_ok-recurs.ensures
