use Rattle.laws_refinement.proofs.Beginnings.{attempts_stay}
use Rattle.laws_refinement.proofs.entry_laws.attempts_stay.Goals as goal

pub returns : goal.returns
returns c = attempts_stay c.inside_may_do.ensures c.elements_inside.ensures c.runs_have_state.ensures c.parts_keep_threads.ensures
