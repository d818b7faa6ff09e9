use Rattle.laws_states.proofs.GrowingRuns.{runs_keep_sizes}
use Rattle.laws_states.proofs.growing_laws.runs_keep_sizes.Goals as goal

pub returns : goal.returns
returns c = runs_keep_sizes
