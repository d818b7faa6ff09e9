use Rattle.laws_refinement.proofs.Beginnings.{due_begin}
use Rattle.laws_refinement.proofs.entry_laws.due_begin.Goals as goal

pub returns : goal.returns
returns c = due_begin c.runs_have_state.ensures c.parts_keep_threads.ensures c.threads_keep_count.ensures
