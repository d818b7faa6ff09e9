use Rattle.machine_types.proofs.AtStart.{is_typed}
use Rattle.machine_types.proofs.start_laws.start_is_typed.Goals as goal

pub returns : goal.returns
returns c = is_typed
