use Rattle.laws_refinement.proofs.ComingToEnter.{instructions_enter}
use Rattle.laws_refinement.proofs.entry_laws.instructions_enter.Goals as goal

pub returns : goal.returns
returns c = instructions_enter
