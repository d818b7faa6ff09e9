use Rattle.machine_types.proofs.PlainPartLaws.{exit_goes_on}
use Rattle.machine_types.proofs.laws.exit_goes_on.Goals as goal

pub returns : goal.returns
returns c = exit_goes_on
