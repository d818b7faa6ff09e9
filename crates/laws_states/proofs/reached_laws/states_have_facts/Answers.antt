use Rattle.laws_states.proofs.States.{states_have_facts}
use Rattle.laws_states.proofs.reached_laws.states_have_facts.Goals as goal

pub returns : goal.returns
returns c = states_have_facts
