use Rattle.laws_threads.proofs.PartSteps.{start_fits}
use Rattle.laws_threads.proofs.part_laws.start_fits_parts.Goals as goal

pub returns : goal.returns
returns c = start_fits
