use Rattle.laws_simulation.proofs.MemoryEvents.{memory_events}
use Rattle.laws_simulation.proofs.memory_laws.memory_steps.Goals as goal

pub returns : goal.returns
returns c = memory_events c.sites_differ.ensures c.sites_lie_inside.ensures
