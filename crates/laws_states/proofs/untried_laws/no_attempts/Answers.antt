use Rattle.laws_states.proofs.States.{no_attempts}
use Rattle.laws_states.proofs.untried_laws.no_attempts.Goals as goal

pub returns : goal.returns
returns c = no_attempts c.start_has_state.ensures c.events_keep_state.ensures c.next_keeps_state.ensures c.start_has_no_attempts.ensures c.events_make_no_attempts.ensures c.next_makes_no_attempts.ensures
