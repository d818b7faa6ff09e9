use Rattle.laws_simulation.proofs.OutcomePrints.{next_keeps_prints}
use Rattle.laws_simulation.proofs.print_laws.next_keeps_prints.Goals as goal

pub returns : goal.returns
returns c = next_keeps_prints
