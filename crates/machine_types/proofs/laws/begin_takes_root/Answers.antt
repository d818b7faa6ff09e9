use Rattle.machine_types.proofs.PlainPartLaws.{begin_takes_root}
use Rattle.machine_types.proofs.laws.begin_takes_root.Goals as goal

pub returns : goal.returns
returns c = begin_takes_root
