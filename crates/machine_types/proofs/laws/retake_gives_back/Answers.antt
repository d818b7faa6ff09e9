use Rattle.machine_types.proofs.PlainStepLaws.{retake_gives_back}
use Rattle.machine_types.proofs.laws.retake_gives_back.Goals as goal

pub returns : goal.returns
returns c = retake_gives_back
