use Rattle.laws_states.proofs.Start.{start_has}
use Rattle.laws_states.proofs.heap_laws.start_has_heap.Goals as goal

pub returns : goal.returns
returns c = start_has c.start_lies_apart.ensures c.start_agrees.ensures c.start_is_unused.ensures c.start_is_typed.ensures
