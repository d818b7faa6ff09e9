use Rattle.laws_states.proofs.PartFacts.{start_has_facts}
use Rattle.laws_states.proofs.run_laws.run_facts_start.Goals as goal

pub returns : goal.returns
returns c = start_has_facts c.start_has_heap.ensures c.start_locks_fit.ensures c.start_records_fit.ensures c.start_counters_fit.ensures
