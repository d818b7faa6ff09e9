use Rattle.checked_program.proofs.OneReach.{one_reach}
use Rattle.checked_program.proofs.laws.reach_is_one.Goals as goal

pub returns : goal.returns
returns c = one_reach
