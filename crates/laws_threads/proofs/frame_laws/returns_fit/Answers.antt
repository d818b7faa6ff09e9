use Rattle.laws_threads.proofs.Callers.{returns_fit}
use Rattle.laws_threads.proofs.frame_laws.returns_fit.Goals as goal

pub returns : goal.returns
returns c = returns_fit
