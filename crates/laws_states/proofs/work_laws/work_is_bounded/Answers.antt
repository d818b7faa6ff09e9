use Rattle.laws_states.proofs.WorkOfStates.{work_is_bounded}
use Rattle.laws_states.proofs.work_laws.work_is_bounded.Goals as goal

pub returns : goal.returns
returns c = work_is_bounded
