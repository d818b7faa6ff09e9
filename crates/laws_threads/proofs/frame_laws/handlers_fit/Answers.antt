use Rattle.laws_threads.proofs.Callers.{handlers_fit}
use Rattle.laws_threads.proofs.frame_laws.handlers_fit.Goals as goal

pub returns : goal.returns
returns c = handlers_fit
