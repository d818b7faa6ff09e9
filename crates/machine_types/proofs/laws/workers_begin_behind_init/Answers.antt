use Rattle.machine_types.proofs.PlainPartLaws.{workers_begin_behind_init}
use Rattle.machine_types.proofs.laws.workers_begin_behind_init.Goals as goal

pub returns : goal.returns
returns c = workers_begin_behind_init
