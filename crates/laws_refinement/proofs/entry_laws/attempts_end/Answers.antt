use Rattle.laws_refinement.proofs.Failures.{attempts_end}
use Rattle.laws_refinement.proofs.entry_laws.attempts_end.Goals as goal

pub returns : goal.returns
returns c = attempts_end c.inside_may_do.ensures c.elements_inside.ensures c.runs_have_state.ensures c.parts_keep_threads.ensures
