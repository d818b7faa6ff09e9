-- What stands in the words of locks and of monitor records.
use Rattle.std.specs.Prelude.{◌≡◌, ◌<◌, ◌≤◌, ℕ, ◌+◌, ◌^◌, true, List, Contains, slice_index}
use Rattle.jvm_types.specs.declared.limits.TheConstants.{MOST_WORKERS}
use Rattle.machine_types.specs.FoundWords.{Content, Lock, Owner, Bits}
use Rattle.machine_types.specs.LockWords.{lock_of, is_lock_word}
use Rattle.machine_types.specs.declared.lock.LockWord.{LockWord}
use Rattle.machine_types.specs.declared.lock.LockWord.TheVariants as locks
use Rattle.machine_types.specs.PlainMemory.{Object}
use Rattle.machine_types.specs.Words.{owner_word, bits_word}
use Rattle.jvm_types.specs.declared.fixed_words.TheConstants.{MONITOR_RECORDS}

-- a free lock has no count above the last one
abbrev pub CountsTo : (range : ℕ) → LockWord → Type 0
CountsTo range (locks.Free c) = c ≤ range
CountsTo range lock = Unit {0}

pub record IsLock (range word : ℕ) : Type 0 where
  pub is : is_lock_word word ≡ true
  pub counts : CountsTo range (lock_of word)

-- a word that stands there, where it is one of these
abbrev pub MayStand : (range : ℕ) → Content → (word : ℕ) → Type 0
MayStand range Lock word = IsLock range word
MayStand range Owner word = word ≤ MOST_WORKERS + 1
MayStand range Bits word = word < 2 ^ (MOST_WORKERS + 1)
MayStand range content word = Unit {0}

-- the lock word of each of these objects is one
abbrev pub LocksFit : (range : ℕ) → List Object → (words : List ℕ) → Type 0
LocksFit range objects words =
    (o : Object) → Contains objects o → IsLock range (slice_index words o.reference)

-- the owner of each record is 0 or a thread's number and 1, and only threads wait
pub record RecordsFit (words : List ℕ) : Type 0 where
  pub owners : (r : ℕ) → r < MONITOR_RECORDS → slice_index words (owner_word r) ≤ MOST_WORKERS + 1
  pub bits : (r : ℕ) → r < MONITOR_RECORDS
      → slice_index words (bits_word r) < 2 ^ (MOST_WORKERS + 1)
