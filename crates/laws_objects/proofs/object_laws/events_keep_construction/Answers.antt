use Rattle.laws_objects.proofs.Events.{events_keep}
use Rattle.laws_objects.proofs.object_laws.events_keep_construction.Goals as goal

pub returns : goal.returns
returns c = events_keep c.start_lies_apart.ensures c.structure_is_kept.ensures
