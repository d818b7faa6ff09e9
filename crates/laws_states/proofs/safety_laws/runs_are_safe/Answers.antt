use Rattle.laws_states.proofs.SafeStates.{runs_are_safe}
use Rattle.laws_states.proofs.safety_laws.runs_are_safe.Goals as goal

pub returns : goal.returns
returns c = runs_are_safe c.parts_keep_threads.ensures c.runs_have_state.ensures c.states_have_facts.ensures c.reached_fits.ensures
