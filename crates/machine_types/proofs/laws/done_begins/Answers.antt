use Rattle.machine_types.proofs.PlainPartLaws.{done_begins}
use Rattle.machine_types.proofs.laws.done_begins.Goals as goal

pub returns : goal.returns
returns c = done_begins
