use Rattle.laws_threads.proofs.FrameCalls.{roots_law}
use Rattle.laws_threads.proofs.call_laws.roots_show.Goals as goal

pub returns : goal.returns
returns c = roots_law
