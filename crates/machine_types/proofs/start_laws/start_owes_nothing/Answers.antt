use Rattle.machine_types.proofs.AtStart.{owes_nothing}
use Rattle.machine_types.proofs.start_laws.start_owes_nothing.Goals as goal

pub returns : goal.returns
returns c = owes_nothing
