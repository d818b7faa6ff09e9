use Rattle.laws_simulation.proofs.OutcomePrints.{start_has_prints}
use Rattle.laws_simulation.proofs.print_laws.start_has_prints.Goals as goal

pub returns : goal.returns
returns c = start_has_prints
