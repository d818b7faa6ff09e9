use Rattle.laws_simulation.proofs.WorkerEnds.{start_keeps_none}
use Rattle.laws_simulation.proofs.end_laws.start_keeps_none.Goals as goal

pub returns : goal.returns
returns c = start_keeps_none
