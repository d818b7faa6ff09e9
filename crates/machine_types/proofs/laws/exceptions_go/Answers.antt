use Rattle.machine_types.proofs.PlainPartLaws.{exceptions_go}
use Rattle.machine_types.proofs.laws.exceptions_go.Goals as goal

pub returns : goal.returns
returns c = exceptions_go
