use Rattle.machine_types.proofs.MarkedClasses.{owned_test}
use Rattle.machine_types.proofs.mark_laws.owned_fields_are_told.Goals as goal

pub returns : goal.returns
returns c = owned_test
