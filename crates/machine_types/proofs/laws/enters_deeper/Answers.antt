use Rattle.machine_types.proofs.PlainStepLaws.{enters_deeper}
use Rattle.machine_types.proofs.laws.enters_deeper.Goals as goal

pub returns : goal.returns
returns c = enters_deeper
