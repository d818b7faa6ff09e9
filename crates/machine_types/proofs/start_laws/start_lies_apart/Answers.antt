use Rattle.machine_types.proofs.PlacesAtStart.{lies_apart}
use Rattle.machine_types.proofs.start_laws.start_lies_apart.Goals as goal

pub returns : goal.returns
returns c = lies_apart
