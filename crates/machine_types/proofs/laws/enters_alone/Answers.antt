use Rattle.machine_types.proofs.PlainStepLaws.{enters_alone}
use Rattle.machine_types.proofs.laws.enters_alone.Goals as goal

pub returns : goal.returns
returns c = enters_alone
