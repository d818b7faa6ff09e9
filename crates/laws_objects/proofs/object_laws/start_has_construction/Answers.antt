use Rattle.laws_objects.proofs.AtStart.{start_has_construction}
use Rattle.laws_objects.proofs.object_laws.start_has_construction.Goals as goal

pub returns : goal.returns
returns c = start_has_construction
