use Rattle.laws_states.proofs.PartFacts.{start_locks_fit}
use Rattle.laws_states.proofs.kept_laws.start_locks_fit.Goals as goal

pub returns : goal.returns
returns c = start_locks_fit
