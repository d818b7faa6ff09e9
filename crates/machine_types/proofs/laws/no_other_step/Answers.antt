use Rattle.machine_types.proofs.PlainStepLaws.{no_other_step}
use Rattle.machine_types.proofs.laws.no_other_step.Goals as goal

pub returns : goal.returns
returns c = no_other_step
