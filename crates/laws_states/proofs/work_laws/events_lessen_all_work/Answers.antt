use Rattle.laws_states.proofs.WorkOfStates.{events_lessen_all_work}
use Rattle.laws_states.proofs.work_laws.events_lessen_all_work.Goals as goal

pub returns : goal.returns
returns c = events_lessen_all_work c.events_lessen_work.ensures
