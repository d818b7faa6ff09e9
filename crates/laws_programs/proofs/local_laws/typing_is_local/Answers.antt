use Rattle.laws_programs.proofs.LocalGoing.{local_law}
use Rattle.laws_programs.proofs.local_laws.typing_is_local.Goals as goal

pub returns : goal.returns
returns c = local_law
