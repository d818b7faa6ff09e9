use Rattle.std.proofs.Common.{◌≡◌, map, replicate}
use Rattle.checked_program.specs.Visits.{unreached}
use Rattle.code_visits.specs.Waiting.{node_is}
use Rattle.code_visits.proofs.nodes.Nodes.unreached.Given as goal

abbrev pub invariant-loop-i : goal.invariant-loop-i
invariant-loop-i g l = map node_is l.nodes.items ≡ replicate l._i unreached
