use Rattle.laws_threads.proofs.EntryKept.{steps_kept}
use Rattle.laws_threads.proofs.entry_laws.steps_keep_entry.Goals as goal

pub returns : goal.returns
returns c = steps_kept
