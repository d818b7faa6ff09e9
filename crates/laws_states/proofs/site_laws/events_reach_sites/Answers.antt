use Rattle.laws_states.proofs.Phases.{events_reach}
use Rattle.laws_states.proofs.site_laws.events_reach_sites.Goals as goal

pub returns : goal.returns
returns c = events_reach
