use Rattle.laws_threads.proofs.PartSteps.{next_fits}
use Rattle.laws_threads.proofs.part_laws.next_fits_parts.Goals as goal

pub returns : goal.returns
returns c = next_fits
