use Rattle.laws_threads.proofs.PartSteps.{event_fits}
use Rattle.laws_threads.proofs.part_laws.events_fit_parts.Goals as goal

pub returns : goal.returns
returns c = event_fits
