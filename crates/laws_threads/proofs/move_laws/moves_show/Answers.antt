use Rattle.laws_threads.proofs.MoveProofs.{moves_law}
use Rattle.laws_threads.proofs.move_laws.moves_show.Goals as goal

pub returns : goal.returns
returns c = moves_law
