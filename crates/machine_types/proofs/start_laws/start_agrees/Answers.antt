use Rattle.machine_types.proofs.PlainAtStart.{agrees}
use Rattle.machine_types.proofs.start_laws.start_agrees.Goals as goal

pub returns : goal.returns
returns c = agrees
