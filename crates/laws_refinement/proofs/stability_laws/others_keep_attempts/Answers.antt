use Rattle.laws_refinement.proofs.OthersKeep.{others_keep_attempts}
use Rattle.laws_refinement.proofs.stability_laws.others_keep_attempts.Goals as goal

pub returns : goal.returns
returns c = others_keep_attempts c.inside_may_do.ensures c.elements_inside.ensures c.owned_is_decided.ensures c.sites_differ.ensures c.sites_lie_inside.ensures c.events_reach_sites.ensures
