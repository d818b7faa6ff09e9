use Rattle.laws_states.proofs.PartsBegin.{next_makes_none}
use Rattle.laws_states.proofs.untried_laws.next_makes_no_attempts.Goals as goal

pub returns : goal.returns
returns c = next_makes_none
