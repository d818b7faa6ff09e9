use Rattle.laws_refinement.proofs.InsideWords.{attempts_are_silent}
use Rattle.laws_refinement.proofs.inside_laws.attempts_are_silent.Goals as goal

pub returns : goal.returns
returns c = attempts_are_silent c.inside_may_do.ensures c.elements_inside.ensures
