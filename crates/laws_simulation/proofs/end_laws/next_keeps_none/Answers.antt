use Rattle.laws_simulation.proofs.WorkerEnds.{next_keeps_none}
use Rattle.laws_simulation.proofs.end_laws.next_keeps_none.Goals as goal

pub returns : goal.returns
returns c = next_keeps_none
