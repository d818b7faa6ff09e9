use Rattle.laws_states.proofs.States.{next_keeps_state}
use Rattle.laws_states.proofs.reached_laws.next_keeps_state.Goals as goal

pub returns : goal.returns
returns c = next_keeps_state c.next_keeps_parts.ensures c.next_puts_inits_first.ensures c.next_keeps_heap.ensures c.next_keeps_counters.ensures c.next_keeps_structure.ensures c.next_keeps_owners.ensures c.next_keeps_waiting.ensures
