use Rattle.class_runner.proofs.LoadedOnce.{accepted}
use Rattle.class_runner.proofs.loading_laws.loaded_is_accepted.Goals as goal

-- the law
pub returns : goal.returns
returns c = accepted
