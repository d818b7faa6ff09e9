use Rattle.laws_threads.proofs.FrameReturns.{return_behind_law}
use Rattle.laws_threads.proofs.call_laws.returns_behind_release.Goals as goal

pub returns : goal.returns
returns c = return_behind_law
