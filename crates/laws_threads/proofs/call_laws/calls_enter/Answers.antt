use Rattle.laws_threads.proofs.FrameCalls.{call_enters_law}
use Rattle.laws_threads.proofs.call_laws.calls_enter.Goals as goal

pub returns : goal.returns
returns c = call_enters_law
