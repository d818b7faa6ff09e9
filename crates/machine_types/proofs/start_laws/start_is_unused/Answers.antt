use Rattle.machine_types.proofs.PlacesAtStart.{is_unused}
use Rattle.machine_types.proofs.start_laws.start_is_unused.Goals as goal

pub returns : goal.returns
returns c = is_unused
