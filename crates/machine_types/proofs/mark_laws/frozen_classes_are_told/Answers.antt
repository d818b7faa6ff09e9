use Rattle.machine_types.proofs.MarkedClasses.{frozen_test}
use Rattle.machine_types.proofs.mark_laws.frozen_classes_are_told.Goals as goal

pub returns : goal.returns
returns c = frozen_test
