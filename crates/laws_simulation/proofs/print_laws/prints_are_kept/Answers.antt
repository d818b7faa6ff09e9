use Rattle.laws_simulation.proofs.EventPrints.{prints_are_kept}
use Rattle.laws_simulation.proofs.print_laws.prints_are_kept.Goals as goal

pub returns : goal.returns
returns c = prints_are_kept c.instructions_change_memory.ensures
