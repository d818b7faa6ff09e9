use Rattle.class_runner.proofs.RefusedOnce.{refused_once}
use Rattle.class_runner.proofs.loading_laws.one_refusal.Goals as goal

-- the law
pub returns : goal.returns
returns c = refused_once
