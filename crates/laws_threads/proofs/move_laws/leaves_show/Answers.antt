use Rattle.laws_threads.proofs.MonitorMoves.{leaves_law}
use Rattle.laws_threads.proofs.move_laws.leaves_show.Goals as goal

pub returns : goal.returns
returns c = leaves_law
