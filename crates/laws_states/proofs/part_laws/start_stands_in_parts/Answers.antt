use Rattle.laws_states.proofs.PartsBegin.{start_stands}
use Rattle.laws_states.proofs.part_laws.start_stands_in_parts.Goals as goal

pub returns : goal.returns
returns c = start_stands
