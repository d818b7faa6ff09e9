use Rattle.std.proofs.Common.{◌≡◌, map, take}
use Rattle.graph_closure.specs.Walks.{need_unless}
use Rattle.graph_closure.proofs.walks.needs_of.Given as goal

abbrev pub invariant-loop-in_set : goal.invariant-loop-in_set
invariant-loop-in_set l = l.needs.items ≡ map need_unless (take l.in_set-index l.into)
