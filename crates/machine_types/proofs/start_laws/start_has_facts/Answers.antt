use Rattle.machine_types.proofs.FactsAtStart.{facts}
use Rattle.machine_types.proofs.start_laws.start_has_facts.Goals as goal

pub returns : goal.returns
returns c = facts
