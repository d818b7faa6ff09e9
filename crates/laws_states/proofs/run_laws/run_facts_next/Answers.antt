use Rattle.laws_states.proofs.PartFacts.{next_keeps_facts}
use Rattle.laws_states.proofs.run_laws.run_facts_next.Goals as goal

pub returns : goal.returns
returns c = next_keeps_facts c.next_keeps_structure.ensures c.next_keeps_heap.ensures c.next_keeps_counters.ensures
