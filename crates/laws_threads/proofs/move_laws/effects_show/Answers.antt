use Rattle.laws_threads.proofs.MoveProofs.{effects_law}
use Rattle.laws_threads.proofs.move_laws.effects_show.Goals as goal

pub returns : goal.returns
returns c = effects_law
