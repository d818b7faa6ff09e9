-- A check of a lock word in an attempt: the lock has to be free, with the count that was noted.
use Rattle.std.specs.Prelude.{ℕ, ◌==◌, if◌then◌else◌}
use Rattle.machine_types.specs.Elision.{elided}
use Rattle.machine_types.specs.LockWords.{word_of_lock}
use Rattle.machine_types.specs.Threads.{Thread}
use Rattle.machine_types.specs.declared.lock.LockWord.TheVariants.{Free}
use Rattle.elided_section.specs.declared.checkup.Checkup.{Checkup}
use Rattle.elided_section.specs.declared.checkup.Checkup.TheVariants.{Same, Differs}

abbrev pub checkup : (noted found : ℕ) → Checkup
checkup noted found = if found == word_of_lock (Free noted) then Same else Differs noted found

-- what the check at the end of a section makes of the thread
abbrev pub section_finished : Thread → Checkup → Thread
section_finished s Same = elided s
section_finished s (Differs noted found) = s
