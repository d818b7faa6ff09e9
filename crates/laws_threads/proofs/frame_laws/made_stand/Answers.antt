use Rattle.laws_threads.proofs.TopStand.{made_stand}
use Rattle.laws_threads.proofs.frame_laws.made_stand.Goals as goal

pub returns : goal.returns
returns c = made_stand
