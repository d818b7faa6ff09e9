-- At the start of a run every object is finished, and what places hold is one of them or null.
use Rattle.machine_types.proofs.FactsAtStart.{construction}
use Rattle.laws_objects.specs.ConstructionLaws.{StartHasConstruction}

pub start_has_construction : StartHasConstruction
start_has_construction c cfg frozen owned marked are owns = construction c cfg frozen owned marked.checked.program are owns
