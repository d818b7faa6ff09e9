use Rattle.laws_states.proofs.GrowingRuns.{threads_stay}
use Rattle.laws_states.proofs.growing_laws.threads_stay_of_runs.Goals as goal

pub returns : goal.returns
returns c = threads_stay
