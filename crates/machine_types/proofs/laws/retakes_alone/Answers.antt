use Rattle.machine_types.proofs.PlainStepLaws.{retakes_alone}
use Rattle.machine_types.proofs.laws.retakes_alone.Goals as goal

pub returns : goal.returns
returns c = retakes_alone
