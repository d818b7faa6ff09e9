use Rattle.laws_states.proofs.PartFacts.{start_records_fit}
use Rattle.laws_states.proofs.kept_laws.start_records_fit.Goals as goal

pub returns : goal.returns
returns c = start_records_fit
