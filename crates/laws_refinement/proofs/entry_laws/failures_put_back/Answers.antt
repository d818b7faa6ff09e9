use Rattle.laws_refinement.proofs.Failures.{failures_put_back}
use Rattle.laws_refinement.proofs.entry_laws.failures_put_back.Goals as goal

pub returns : goal.returns
returns c = failures_put_back c.inside_may_do.ensures c.elements_inside.ensures c.runs_have_state.ensures c.parts_keep_threads.ensures
