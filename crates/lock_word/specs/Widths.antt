-- Which locks have a word.
use Rattle.std.specs.Prelude.{◌^◌, ◌<◌, ◌≤◌}
use Rattle.jvm_types.specs.declared.fixed_words.TheConstants.{MONITOR_RECORDS}
use Rattle.machine_types.specs.declared.lock.LockWord.{LockWord}
use Rattle.machine_types.specs.declared.lock.LockWord.TheVariants.{Free, Fat, Held, Flagged}

-- a count of 62 bits, the number of a record, the number of a thread
abbrev pub HasWord : LockWord → Type 0
HasWord (Free c) = c < 2 ^ 62
HasWord (Fat r) = r < MONITOR_RECORDS
HasWord (Held t) = t ≤ 8
HasWord (Flagged t) = t ≤ 8
