use Rattle.laws_threads.proofs.MoveProofs.{follow_law}
use Rattle.laws_threads.proofs.move_laws.effects_follow_edges.Goals as goal

pub returns : goal.returns
returns c = follow_law
