use Rattle.laws_states.proofs.PartsBegin.{next_keeps_parts}
use Rattle.laws_states.proofs.part_laws.next_keeps_parts.Goals as goal

pub returns : goal.returns
returns c = next_keeps_parts
