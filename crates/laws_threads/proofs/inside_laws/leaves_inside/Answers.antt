use Rattle.laws_threads.proofs.Leaves.{leaves_inside}
use Rattle.laws_threads.proofs.inside_laws.leaves_inside.Goals as goal

pub returns : goal.returns
returns c = leaves_inside
