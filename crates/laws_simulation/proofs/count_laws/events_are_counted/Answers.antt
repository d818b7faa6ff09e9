use Rattle.laws_simulation.proofs.EventCounts.{events_are_counted}
use Rattle.laws_simulation.proofs.count_laws.events_are_counted.Goals as goal

pub returns : goal.returns
returns c = events_are_counted
