use Rattle.laws_programs.proofs.LeastVisits.{due}
use Rattle.laws_programs.proofs.least_laws.refusals_are_due.Goals as goal

pub returns : goal.returns
returns c = due
