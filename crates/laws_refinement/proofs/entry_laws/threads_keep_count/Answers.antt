use Rattle.laws_refinement.proofs.Runs.{threads_keep_count}
use Rattle.laws_refinement.proofs.entry_laws.threads_keep_count.Goals as goal

pub returns : goal.returns
returns c = threads_keep_count c.inside_may_do.ensures c.elements_inside.ensures c.runs_have_state.ensures c.parts_keep_threads.ensures
