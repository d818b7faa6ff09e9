use Rattle.laws_states.proofs.EventFacts.{events_keep_facts}
use Rattle.laws_states.proofs.run_laws.run_facts_event.Goals as goal

pub returns : goal.returns
returns c = events_keep_facts c.sites_lie_inside.ensures c.events_reach_sites.ensures c.heap_words_fit.ensures c.left_words_may_stand.ensures c.events_keep_heap.ensures c.locks_are_kept.ensures c.records_are_kept.ensures c.counters_are_kept.ensures
