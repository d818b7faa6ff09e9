use Rattle.laws_refinement.proofs.Beginnings.{begun_are_due}
use Rattle.laws_refinement.proofs.entry_laws.begun_are_due.Goals as goal

pub returns : goal.returns
returns c = begun_are_due c.runs_have_state.ensures c.parts_keep_threads.ensures c.threads_keep_count.ensures
