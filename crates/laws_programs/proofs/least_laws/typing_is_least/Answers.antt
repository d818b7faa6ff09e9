use Rattle.laws_programs.proofs.LeastVisits.{least}
use Rattle.laws_programs.proofs.least_laws.typing_is_least.Goals as goal

pub returns : goal.returns
returns c = least
