use Rattle.machine_types.proofs.PlainStepLaws.{wait_gives_up}
use Rattle.machine_types.proofs.laws.wait_gives_up.Goals as goal

pub returns : goal.returns
returns c = wait_gives_up
