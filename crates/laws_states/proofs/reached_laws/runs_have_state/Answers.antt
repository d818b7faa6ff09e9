use Rattle.laws_states.proofs.States.{runs_have_state}
use Rattle.laws_states.proofs.reached_laws.runs_have_state.Goals as goal

pub returns : goal.returns
returns c = runs_have_state c.start_has_state.ensures c.events_keep_state.ensures c.next_keeps_state.ensures
