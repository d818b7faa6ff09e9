use Rattle.laws_threads.proofs.EntryKept.{throws_kept}
use Rattle.laws_threads.proofs.entry_laws.throws_keep_entry.Goals as goal

pub returns : goal.returns
returns c = throws_kept
