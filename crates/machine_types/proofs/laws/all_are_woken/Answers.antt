use Rattle.machine_types.proofs.PlainPartLaws.{all_are_woken}
use Rattle.machine_types.proofs.laws.all_are_woken.Goals as goal

pub returns : goal.returns
returns c = all_are_woken
