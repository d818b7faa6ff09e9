use Rattle.laws_simulation.proofs.OnwardEvents.{onward_events}
use Rattle.laws_simulation.proofs.memory_laws.onward_steps.Goals as goal

pub returns : goal.returns
returns c = onward_events c.sites_differ.ensures c.sites_lie_inside.ensures c.events_keep_parts.ensures
