use Rattle.laws_threads.proofs.KeptTypes.{types_kept}
use Rattle.laws_threads.proofs.type_laws.types_are_kept.Goals as goal

pub returns : goal.returns
returns c = types_kept
