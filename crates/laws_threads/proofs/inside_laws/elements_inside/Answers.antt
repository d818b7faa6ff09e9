use Rattle.laws_threads.proofs.Steps.{elements_inside}
use Rattle.laws_threads.proofs.inside_laws.elements_inside.Goals as goal

pub returns : goal.returns
returns c = elements_inside
