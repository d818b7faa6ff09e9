use Rattle.machine_types.proofs.AtStart.{keeps}
use Rattle.machine_types.proofs.start_laws.start_keeps_objects.Goals as goal

pub returns : goal.returns
returns c = keeps
