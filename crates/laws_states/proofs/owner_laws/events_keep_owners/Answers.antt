use Rattle.laws_states.proofs.EventOwners.{events_keep_owners}
use Rattle.laws_states.proofs.owner_laws.events_keep_owners.Goals as goal

pub returns : goal.returns
returns c = events_keep_owners c.sites_differ.ensures c.sites_lie_inside.ensures c.events_reach_sites.ensures c.given_is_kept.ensures
