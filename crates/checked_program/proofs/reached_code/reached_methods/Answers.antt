use Rattle.checked_program.proofs.ReachedMethods.{shown_graph, shown_reached}
use Rattle.checked_program.proofs.reached_code.reached_methods.Goals as goal

pub leading-requires-clause-graph : goal.leading-requires-clause-graph
leading-requires-clause-graph c = shown_graph c.args.p.now c.args.method (record {
  n = c.len.result;
  g = c.in_ok-graph.graph;
  to = c.as_slice.result.now;
  from = c.as_slice-2.result.now;
  into = c.in_ok-into.into.items;
  shown = c.as_slice-3.result.now;
  graph_is = c.in_ok-graph.ensures;
  to_is = c.as_slice.ensures;
  from_is = c.as_slice-2.ensures;
  count = c.len.ensures;
  into_is = c.in_ok-into.ensures;
  shown_is = c.as_slice-3.ensures.value;
}) c.requires.program

pub returns : goal.returns
returns c = shown_reached c.args.p.now c.args.method (record {
  n = c.len.result;
  g = c.in_ok-graph.graph;
  to = c.as_slice.result.now;
  from = c.as_slice-2.result.now;
  into = c.in_ok-into.into.items;
  shown = c.as_slice-3.result.now;
  graph_is = c.in_ok-graph.ensures;
  to_is = c.as_slice.ensures;
  from_is = c.as_slice-2.ensures;
  count = c.len.ensures;
  into_is = c.in_ok-into.ensures;
  shown_is = c.as_slice-3.ensures.value;
}) c.in_ok-found.found.items c.requires.program c.requires.inside c.in_ok-found.ensures
