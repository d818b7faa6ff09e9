use Rattle.machine_types.proofs.PlainPartLaws.{do_is_own}
use Rattle.machine_types.proofs.laws.do_is_own.Goals as goal

pub returns : goal.returns
returns c = do_is_own
