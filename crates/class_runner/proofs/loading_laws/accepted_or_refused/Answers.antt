use Rattle.class_runner.proofs.LoadedOrRefused.{accepted_or_refused}
use Rattle.class_runner.proofs.loading_laws.accepted_or_refused.Goals as goal

-- the law
pub returns : goal.returns
returns c = accepted_or_refused
