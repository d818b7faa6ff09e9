use Rattle.laws_states.proofs.PartsBegin.{start_has_none}
use Rattle.laws_states.proofs.untried_laws.start_has_no_attempts.Goals as goal

pub returns : goal.returns
returns c = start_has_none
