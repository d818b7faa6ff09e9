use Rattle.laws_objects.proofs.FinishedInits.{finished_by_return}
use Rattle.laws_objects.proofs.unfinished_laws.finished_by_own_return.Goals as goal

pub returns : goal.returns
returns c = search finished_by_return
