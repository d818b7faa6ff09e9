use Rattle.laws_threads.proofs.Inside.{inside_may}
use Rattle.laws_threads.proofs.inside_laws.inside_may_do.Goals as goal

pub returns : goal.returns
returns c = inside_may
