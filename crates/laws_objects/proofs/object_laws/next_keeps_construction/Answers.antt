use Rattle.laws_objects.proofs.PartBegins.{next_keeps}
use Rattle.laws_objects.proofs.object_laws.next_keeps_construction.Goals as goal

pub returns : goal.returns
returns c = next_keeps c.next_keeps_structure.ensures
