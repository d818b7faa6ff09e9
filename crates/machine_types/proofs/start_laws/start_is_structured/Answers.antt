use Rattle.machine_types.proofs.AtStart.{is_structured}
use Rattle.machine_types.proofs.start_laws.start_is_structured.Goals as goal

pub returns : goal.returns
returns c = is_structured
