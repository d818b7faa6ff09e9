use Rattle.class_runner.proofs.LoadedOnce.{loaded_once}
use Rattle.class_runner.proofs.loading_laws.one_loading.Goals as goal

-- the law
pub returns : goal.returns
returns c = loaded_once
