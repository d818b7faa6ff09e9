-- The lock word of an object: its low two bits say of which kind it is. Free and held flat locks,
-- fat locks and the count are those of the PLDI 2010 publication; the widths are the machine's own.
use Rattle.std.specs.Prelude.{ℕ, zero, suc, ◌+◌, ◌-◌, ◌*◌, ◌/◌, ◌%◌, nat_lt, nat_le, Bool, true}
use Rattle.std.specs.Prelude.{◌&&◌, if◌then◌else◌}
use Rattle.jvm_types.specs.declared.fixed_words.TheConstants.{MONITOR_RECORDS}
pub use Rattle.machine_types.specs.declared.lock.LockWord.{LockWord}
pub use Rattle.machine_types.specs.declared.lock.LockWord.TheVariants.{Free, Fat, Held, Flagged}

abbrev pub word_of_lock : LockWord → ℕ
word_of_lock (Free c) = 4 * c
word_of_lock (Fat r) = 4 * r + 1
word_of_lock (Held t) = 4 * (t + 1) + 2
word_of_lock (Flagged t) = 4 * (t + 1) + 3

abbrev pub lock_by : (kind upper : ℕ) → LockWord
lock_by zero n = Free n
lock_by (suc zero) n = Fat n
lock_by (suc (suc zero)) n = Held (n - 1)
lock_by kind n = Flagged (n - 1)

abbrev pub lock_of : ℕ → LockWord
lock_of word = lock_by (word % 4) (word / 4)

-- ---- which words are lock words: of records there are 1,024, and of threads at most 9

abbrev pub is_lock_by : (kind upper : ℕ) → Bool
is_lock_by zero n = true
is_lock_by (suc zero) n = nat_lt n MONITOR_RECORDS
is_lock_by kind n = nat_lt 0 n && nat_le n 9

abbrev pub is_lock_word : ℕ → Bool
is_lock_word word = is_lock_by (word % 4) (word / 4)

-- ---- counts: a release raises the count, up to the last one

abbrev pub next_count : (count range : ℕ) → ℕ
next_count count range = if nat_lt count range then count + 1 else range
