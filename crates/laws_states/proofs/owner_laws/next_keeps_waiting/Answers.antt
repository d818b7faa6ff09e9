use Rattle.laws_states.proofs.PartWaiting.{next_keeps_waiting}
use Rattle.laws_states.proofs.owner_laws.next_keeps_waiting.Goals as goal

pub returns : goal.returns
returns c = next_keeps_waiting
