use Rattle.laws_states.proofs.PartFacts.{start_counters_fit}
use Rattle.laws_states.proofs.kept_laws.start_counters_fit.Goals as goal

pub returns : goal.returns
returns c = start_counters_fit
