use Rattle.laws_threads.proofs.EntryKept.{leaves_kept}
use Rattle.laws_threads.proofs.entry_laws.leaves_keep_entry.Goals as goal

pub returns : goal.returns
returns c = leaves_kept
