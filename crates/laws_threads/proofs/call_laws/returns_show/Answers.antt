use Rattle.laws_threads.proofs.FrameReturns.{returns_law}
use Rattle.laws_threads.proofs.call_laws.returns_show.Goals as goal

pub returns : goal.returns
returns c = returns_law
