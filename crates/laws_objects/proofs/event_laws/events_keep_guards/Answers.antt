use Rattle.laws_objects.proofs.GuardsKept.{events_keep_guards}
use Rattle.laws_objects.proofs.event_laws.events_keep_guards.Goals as goal

pub returns : goal.returns
returns c = search events_keep_guards
