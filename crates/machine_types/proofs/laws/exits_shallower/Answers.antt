use Rattle.machine_types.proofs.PlainStepLaws.{exits_shallower}
use Rattle.machine_types.proofs.laws.exits_shallower.Goals as goal

pub returns : goal.returns
returns c = exits_shallower
