use Rattle.laws_simulation.proofs.WorkerEnds.{events_keep_none}
use Rattle.laws_simulation.proofs.end_laws.events_keep_none.Goals as goal

pub returns : goal.returns
returns c = events_keep_none c.given_is_kept.ensures
