use Rattle.laws_threads.proofs.TopStand.{thrown_stand}
use Rattle.laws_threads.proofs.frame_laws.thrown_stand.Goals as goal

pub returns : goal.returns
returns c = thrown_stand
