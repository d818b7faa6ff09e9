use Rattle.laws_states.proofs.WorkFalls.{events_lessen_work}
use Rattle.laws_states.proofs.work_laws.events_lessen_work.Goals as goal

pub returns : goal.returns
returns c = events_lessen_work
