use Rattle.laws_threads.proofs.FramePlaces.{have_tops_law}
use Rattle.laws_threads.proofs.standing_laws.frames_have_tops.Goals as goal

pub returns : goal.returns
returns c = have_tops_law
