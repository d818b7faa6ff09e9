use Rattle.laws_threads.proofs.MoveProofs.{elements_law}
use Rattle.laws_threads.proofs.move_laws.elements_show.Goals as goal

pub returns : goal.returns
returns c = elements_law
