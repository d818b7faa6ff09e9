use Rattle.laws_states.proofs.States.{start_has_state}
use Rattle.laws_states.proofs.reached_laws.start_has_state.Goals as goal

pub returns : goal.returns
returns c = start_has_state c.run_facts_start.ensures c.start_stands_in_parts.ensures c.start_puts_inits_first.ensures c.start_has_heap.ensures c.start_locks_fit.ensures c.start_records_fit.ensures c.start_counters_fit.ensures c.start_is_structured.ensures c.start_owns.ensures c.start_waits.ensures
