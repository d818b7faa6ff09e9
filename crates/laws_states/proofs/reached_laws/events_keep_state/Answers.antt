use Rattle.laws_states.proofs.States.{events_keep_state}
use Rattle.laws_states.proofs.reached_laws.events_keep_state.Goals as goal

pub returns : goal.returns
returns c = events_keep_state c.run_facts_event.ensures c.threads_are_kept.ensures c.events_keep_parts.ensures c.events_put_inits_first.ensures c.events_keep_heap.ensures c.locks_are_kept.ensures c.records_are_kept.ensures c.counters_are_kept.ensures c.events_keep_structure.ensures c.events_keep_owners.ensures c.events_keep_waiting.ensures
