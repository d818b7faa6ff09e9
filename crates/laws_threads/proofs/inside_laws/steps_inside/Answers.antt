use Rattle.laws_threads.proofs.Steps.{steps_inside}
use Rattle.laws_threads.proofs.inside_laws.steps_inside.Goals as goal

pub returns : goal.returns
returns c = steps_inside
