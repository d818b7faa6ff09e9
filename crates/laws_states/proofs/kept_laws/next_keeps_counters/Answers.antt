use Rattle.laws_states.proofs.PartFacts.{next_keeps_counters}
use Rattle.laws_states.proofs.kept_laws.next_keeps_counters.Goals as goal

pub returns : goal.returns
returns c = next_keeps_counters
