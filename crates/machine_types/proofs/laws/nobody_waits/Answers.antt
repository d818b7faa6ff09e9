use Rattle.machine_types.proofs.PlainStepLaws.{nobody_waits}
use Rattle.machine_types.proofs.laws.nobody_waits.Goals as goal

pub returns : goal.returns
returns c = nobody_waits
