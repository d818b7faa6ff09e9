use Rattle.machine_types.proofs.PlainStepLaws.{notify_wakes}
use Rattle.machine_types.proofs.laws.notify_wakes.Goals as goal

pub returns : goal.returns
returns c = notify_wakes
