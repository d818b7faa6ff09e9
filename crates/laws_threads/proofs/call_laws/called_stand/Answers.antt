use Rattle.laws_threads.proofs.FrameCalls.{called_law}
use Rattle.laws_threads.proofs.call_laws.called_stand.Goals as goal

pub returns : goal.returns
returns c = called_law
