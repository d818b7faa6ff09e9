use Rattle.laws_states.proofs.NoAttempts.{events_make_none}
use Rattle.laws_states.proofs.untried_laws.events_make_no_attempts.Goals as goal

pub returns : goal.returns
returns c = events_make_none
