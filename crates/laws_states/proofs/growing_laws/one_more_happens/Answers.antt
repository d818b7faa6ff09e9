use Rattle.laws_states.proofs.GrowingRuns.{one_more}
use Rattle.laws_states.proofs.growing_laws.one_more_happens.Goals as goal

pub returns : goal.returns
returns c = one_more
