use Rattle.laws_states.proofs.Kept.{next_keeps}
use Rattle.laws_states.proofs.heap_laws.next_keeps_heap.Goals as goal

pub returns : goal.returns
returns c = next_keeps
