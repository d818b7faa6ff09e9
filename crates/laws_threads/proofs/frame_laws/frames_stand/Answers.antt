use Rattle.laws_threads.proofs.TopStand.{frames_stand}
use Rattle.laws_threads.proofs.frame_laws.frames_stand.Goals as goal

pub returns : goal.returns
returns c = frames_stand
