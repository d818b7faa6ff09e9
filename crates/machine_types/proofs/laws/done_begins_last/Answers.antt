use Rattle.machine_types.proofs.PlainPartLaws.{done_begins_last}
use Rattle.machine_types.proofs.laws.done_begins_last.Goals as goal

pub returns : goal.returns
returns c = done_begins_last
