use Rattle.laws_states.proofs.ClassInitsFirst.{start_puts_first}
use Rattle.laws_states.proofs.part_laws.start_puts_inits_first.Goals as goal

pub returns : goal.returns
returns c = start_puts_first
