use Rattle.std.proofs.Common.{◌≡◌, length}
use Rattle.widest_paths.specs.WidestPaths.{AreEmpty}
use Rattle.widest_paths.proofs.graph.no_fans.Given as goal

abbrev pub invariant-loop-node : goal.invariant-loop-node
invariant-loop-node l = record {
  nodes : length l.into.items ≡ l._node;
  empty : AreEmpty l.into.items;
}
