use Rattle.laws_states.proofs.KeptWords.{events_keep_counters}
use Rattle.laws_states.proofs.kept_laws.counters_are_kept.Goals as goal

pub returns : goal.returns
returns c = events_keep_counters c.sites_differ.ensures c.sites_lie_inside.ensures c.events_reach_sites.ensures
