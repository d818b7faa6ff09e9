use Rattle.laws_states.proofs.Kept.{events_keep}
use Rattle.laws_states.proofs.heap_laws.events_keep_heap.Goals as goal

pub returns : goal.returns
returns c = events_keep c.structure_is_kept.ensures c.start_lies_apart.ensures
