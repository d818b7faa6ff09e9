use Rattle.std.proofs.Common.{◌∙◌, map, sym}
use Rattle.code_visits.{specs.Waiting.node_is, proofs.WaitingLaws.none_reached}
use Rattle.code_visits.proofs.nodes.Nodes.unreached.Goals as goal

pub invariant_of-result : goal.invariant_of-result
invariant_of-result g c = c.new.ensures.empty ∙ sym (none_reached 0 c.loop-i._i (map node_is c.loop-i.nodes.items) c.loop-i.invariant)
