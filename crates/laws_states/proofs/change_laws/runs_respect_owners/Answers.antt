use Rattle.laws_states.proofs.RespectedOwners.{runs_respect_owners}
use Rattle.laws_states.proofs.change_laws.runs_respect_owners.Goals as goal

pub returns : goal.returns
returns c = runs_respect_owners c.parts_keep_threads.ensures c.start_has_state.ensures c.events_keep_state.ensures c.next_keeps_state.ensures c.events_respect_owners.ensures
