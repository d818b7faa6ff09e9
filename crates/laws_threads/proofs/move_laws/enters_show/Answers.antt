use Rattle.laws_threads.proofs.MonitorMoves.{enters_law}
use Rattle.laws_threads.proofs.move_laws.enters_show.Goals as goal

pub returns : goal.returns
returns c = enters_law
