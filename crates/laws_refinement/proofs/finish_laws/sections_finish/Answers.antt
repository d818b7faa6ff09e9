use Rattle.laws_refinement.proofs.FinishedSections.{sections_finish}
use Rattle.laws_refinement.proofs.finish_laws.sections_finish.Goals as goal

pub returns : goal.returns
returns c = sections_finish c.sites_differ.ensures
