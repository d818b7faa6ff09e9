use Rattle.machine_types.proofs.PlainPartLaws.{no_other_is_woken}
use Rattle.machine_types.proofs.laws.no_other_is_woken.Goals as goal

pub returns : goal.returns
returns c = no_other_is_woken
