use Rattle.class_runner.proofs.LoadedOnce.{never_refused}
use Rattle.class_runner.proofs.loading_laws.accepted_is_not_refused.Goals as goal

-- the law
pub returns : goal.returns
returns c = never_refused
