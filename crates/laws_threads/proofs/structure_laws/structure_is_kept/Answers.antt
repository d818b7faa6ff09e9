use Rattle.laws_threads.proofs.ThreadSteps.{kept}
use Rattle.laws_threads.proofs.structure_laws.structure_is_kept.Goals as goal

pub returns : goal.returns
returns c = kept c.attempt_begins.ensures c.enters_inside.ensures
