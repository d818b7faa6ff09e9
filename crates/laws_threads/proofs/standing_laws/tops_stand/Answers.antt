use Rattle.laws_threads.proofs.FramePlaces.{tops_stand_law}
use Rattle.laws_threads.proofs.standing_laws.tops_stand.Goals as goal

pub returns : goal.returns
returns c = tops_stand_law
