use Rattle.laws_refinement.proofs.Failures.{only_failures_count}
use Rattle.laws_refinement.proofs.entry_laws.only_failures_count.Goals as goal

pub returns : goal.returns
returns c = only_failures_count c.inside_may_do.ensures c.elements_inside.ensures c.runs_have_state.ensures c.parts_keep_threads.ensures
