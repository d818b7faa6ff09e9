use Rattle.laws_states.proofs.ClassInitsFirst.{next_puts_first}
use Rattle.laws_states.proofs.part_laws.next_puts_inits_first.Goals as goal

pub returns : goal.returns
returns c = next_puts_first
