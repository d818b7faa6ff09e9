use Rattle.machine_types.proofs.PlainAtStart.{stands_beside}
use Rattle.machine_types.proofs.start_laws.start_stands_beside.Goals as goal

pub returns : goal.returns
returns c = stands_beside
