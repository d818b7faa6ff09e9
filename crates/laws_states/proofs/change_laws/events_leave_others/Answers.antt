use Rattle.laws_states.proofs.LeftAsTheyWere.{events_leave_others}
use Rattle.laws_states.proofs.change_laws.events_leave_others.Goals as goal

pub returns : goal.returns
returns c = events_leave_others
