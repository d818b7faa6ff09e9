use Rattle.laws_threads.proofs.StateSteps.{events_keep}
use Rattle.laws_threads.proofs.structure_laws.events_keep_structure.Goals as goal

pub returns : goal.returns
returns c = events_keep c.attempt_begins.ensures c.enters_inside.ensures
