use Rattle.laws_states.proofs.EventWaiting.{events_keep_waiting}
use Rattle.laws_states.proofs.owner_laws.events_keep_waiting.Goals as goal

pub returns : goal.returns
returns c = events_keep_waiting c.sites_differ.ensures c.sites_lie_inside.ensures c.events_reach_sites.ensures
