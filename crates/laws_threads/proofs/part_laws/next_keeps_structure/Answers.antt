use Rattle.laws_threads.proofs.PartSteps.{next_keeps}
use Rattle.laws_threads.proofs.part_laws.next_keeps_structure.Goals as goal

pub returns : goal.returns
returns c = next_keeps
