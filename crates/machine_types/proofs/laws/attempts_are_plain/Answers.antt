use Rattle.machine_types.proofs.AttemptsPlain.{attempts_are_plain}
use Rattle.machine_types.proofs.laws.attempts_are_plain.Goals as goal

pub returns : goal.returns
returns c = attempts_are_plain
