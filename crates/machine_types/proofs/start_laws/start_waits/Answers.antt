use Rattle.machine_types.proofs.AtStart.{waits}
use Rattle.machine_types.proofs.start_laws.start_waits.Goals as goal

pub returns : goal.returns
returns c = waits
