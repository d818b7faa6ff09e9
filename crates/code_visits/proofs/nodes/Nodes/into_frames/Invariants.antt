use Rattle.std.proofs.Common.{◌≡◌, ◌++◌, map}
use Rattle.code_visits.proofs.nodes.Nodes.into_frames.Given as goal

abbrev pub invariant-loop-node : goal.invariant-loop-node
invariant-loop-node g l = l.frames ++ map (λ node. node.frame) l.node-iterator.rest.items ≡ map (λ node. node.frame) l.fn.self
