use Rattle.laws_threads.proofs.FrameCalls.{calls_law}
use Rattle.laws_threads.proofs.call_laws.calls_show.Goals as goal

pub returns : goal.returns
returns c = calls_law
