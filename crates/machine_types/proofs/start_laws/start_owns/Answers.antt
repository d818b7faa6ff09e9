use Rattle.machine_types.proofs.OwnersAtStart.{start_owns_all}
use Rattle.machine_types.proofs.start_laws.start_owns.Goals as goal

pub returns : goal.returns
returns c = start_owns_all
