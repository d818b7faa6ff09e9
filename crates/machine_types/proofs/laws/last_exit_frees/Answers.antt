use Rattle.machine_types.proofs.PlainPartLaws.{last_exit_frees}
use Rattle.machine_types.proofs.laws.last_exit_frees.Goals as goal

pub returns : goal.returns
returns c = last_exit_frees
