use Rattle.laws_threads.proofs.Throws.{throws_inside}
use Rattle.laws_threads.proofs.inside_laws.throws_inside.Goals as goal

pub returns : goal.returns
returns c = throws_inside
