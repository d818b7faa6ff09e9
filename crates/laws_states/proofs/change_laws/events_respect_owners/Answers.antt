use Rattle.laws_states.proofs.RespectedOwners.{events_respect_owners}
use Rattle.laws_states.proofs.change_laws.events_respect_owners.Goals as goal

pub returns : goal.returns
returns c = events_respect_owners c.sites_differ.ensures c.sites_lie_inside.ensures c.events_reach_sites.ensures
