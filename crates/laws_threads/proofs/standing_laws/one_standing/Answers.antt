use Rattle.laws_threads.proofs.FramePlaces.{one_standing_law}
use Rattle.laws_threads.proofs.standing_laws.one_standing.Goals as goal

pub returns : goal.returns
returns c = one_standing_law
