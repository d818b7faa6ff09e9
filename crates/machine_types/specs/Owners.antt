-- Who holds which lock, and with which count: what the words of locks and records say is what the
-- threads hold. The flat lock with its count is that of the PLDI 2010 publication.
use Rattle.std.specs.Prelude.{◌≡◌, ◌≢◌, ℕ, ◌+◌, ◌<◌, ◌≤◌, ◌==◌, nat_lt, List, map, sum_by, Option}
use Rattle.std.specs.Prelude.{Some, None, slice_get, slice_index, if◌then◌else◌}
use Rattle.jvm_types.specs.Numbers.{has_number}
use Rattle.machine_types.specs.Core.{Core}
use Rattle.machine_types.specs.HeldMonitors.{held_at}
use Rattle.machine_types.specs.LockWords.{lock_of}
use Rattle.machine_types.specs.declared.lock.LockWord.{LockWord}
use Rattle.machine_types.specs.declared.lock.LockWord.TheVariants as locks
use Rattle.machine_types.specs.PlainMemory.{Object}
use Rattle.machine_types.specs.Threads.{Attempt, Thread}
use Rattle.machine_types.specs.declared.phase.Phase.{Phase}
use Rattle.machine_types.specs.declared.config.Config.{Config}
use Rattle.machine_types.specs.declared.lock.Held.{Held}
use Rattle.machine_types.specs.Words.{owner_word}
use Rattle.jvm_types.specs.declared.fixed_words.TheConstants.{NEXT_RECORD_WORD, MONITOR_RECORDS}
use Rattle.machine_types.specs.declared.lock.Kept.{Kept}
use Rattle.machine_types.specs.declared.lock.Kept.TheVariants as keeps
use Rattle.machine_types.specs.declared.phase.Phase.TheVariants as phases

-- ---- what the words say of locks

-- the lock of each object, the owner of each record, and the number of the next one
pub record Locks : Type 0 where
  pub lock : ℕ → LockWord
  pub owner : ℕ → ℕ
  pub next : ℕ

-- where there is no object the lock counts as free
abbrev pub lock_at : (references words : List ℕ) → (m : ℕ) → LockWord
lock_at references words m =
    if has_number references m then lock_of (slice_index words m) else locks.Free 0

abbrev pub owner_at : (words : List ℕ) → (r : ℕ) → ℕ
owner_at words r = if nat_lt r MONITOR_RECORDS then slice_index words (owner_word r) else 0

abbrev pub locks_in : (references words : List ℕ) → Locks
locks_in references words =
    record {
      lock = lock_at references words;
      owner = owner_at words;
      next = slice_index words NEXT_RECORD_WORD;
    }

-- ---- how a thread has a monitor

pub data Hold : Type 0 where
  NotHeld : Hold
  HeldFlat : Hold
  HeldFat : (r : ℕ) → Hold

-- by the words
abbrev pub hold_by_word : (t : ℕ) → LockWord → (owner : ℕ → ℕ) → Hold
hold_by_word t (locks.Free count) owner = NotHeld
hold_by_word t (locks.Held u) owner = if u == t then HeldFlat else NotHeld
hold_by_word t (locks.Flagged u) owner = if u == t then HeldFlat else NotHeld
hold_by_word t (locks.Fat r) owner = if owner r == t + 1 then HeldFat r else NotHeld

-- by the thread's own list
abbrev pub hold_by_kept : Kept → Hold
hold_by_kept (keeps.Flat count) = HeldFlat
hold_by_kept (keeps.Fat r) = HeldFat r

abbrev pub hold_by_list : Option Held → Hold
hold_by_list None = NotHeld
hold_by_list (Some h) = hold_by_kept h.kept

-- ---- records that a phase knows

-- no lock names the record yet
pub record IsDrawn (v : Locks) (r : ℕ) : Type 0 where
  pub unnamed : (m : ℕ) → v.lock m ≢ locks.Fat r
  pub below : r < v.next

-- In FatIn the record has its owner already. A fat lock stays fat, so one that was seen still is.
abbrev pub Knows : Locks → (t : ℕ) → Phase → Type 0
Knows v t (phases.Own m r toward) = IsDrawn v r
Knows v t (phases.FatIn m r toward) = IsDrawn v r × (v.owner r ≡ t + 1)
Knows v t (phases.TakeFat m r) = v.lock m ≡ locks.Fat r
Knows v t (phases.WaitLook m r depth) = v.lock m ≡ locks.Fat r
Knows v t (phases.Retake m r depth) = v.lock m ≡ locks.Fat r
Knows v t phase = Unit {0}

abbrev pub drawn_by : Phase → Option ℕ
drawn_by (phases.Own m r toward) = Some r
drawn_by (phases.FatIn m r toward) = Some r
drawn_by phase = None

-- ---- counts: each monitor has one, which its free word or its flat holder keeps

-- a count that was seen is no later one, unless the monitor got fat
abbrev pub IsSeen : LockWord → (seen count : ℕ) → Type 0
IsSeen (locks.Fat r) seen count = Unit {0}
IsSeen lock seen count = seen ≤ count

abbrev pub PhaseSaw : Locks → (count : ℕ → ℕ) → Phase → Type 0
PhaseSaw v count (phases.Take m seen) = IsSeen (v.lock m) seen (count m)
PhaseSaw v count phase = Unit {0}

-- and no attempt begins with the last count, which is raised no more
pub record AttemptSaw (v : Locks) (count : ℕ → ℕ) (cfg : Config) (a : Attempt) : Type 0 where
  pub seen : IsSeen (v.lock a.monitor) a.noted (count a.monitor)
  pub not_last : a.noted < cfg.range

abbrev pub AttemptSawIn : Locks → (count : ℕ → ℕ) → Config → Option Attempt → Type 0
AttemptSawIn v count cfg None = Unit {0}
AttemptSawIn v count cfg (Some a) = AttemptSaw v count cfg a

abbrev pub IsKeptCount : Kept → (count : ℕ) → Type 0
IsKeptCount (keeps.Flat kept) count = kept ≡ count
IsKeptCount (keeps.Fat r) count = Unit {0}

abbrev pub IsKeptIn : Option Held → (count : ℕ) → Type 0
IsKeptIn None count = Unit {0}
IsKeptIn (Some h) count = IsKeptCount h.kept count

-- ---- one thread, the words, and all

-- was: the phase that counts
pub record Owns (v : Locks) (count : ℕ → ℕ) (t : ℕ) (was : Phase) (s : Thread) : Type 0 where
  pub holds : (m : ℕ) → hold_by_word t (v.lock m) v.owner ≡ hold_by_list (held_at s.held m)
  pub knows : Knows v t was
  pub keeps_count : (m : ℕ) → IsKeptIn (held_at s.held m) (count m)
  pub take : PhaseSaw v count was
  pub attempt : AttemptSawIn v count s.cfg s.attempt

pub record AreLocks (v : Locks) (count : ℕ → ℕ) : Type 0 where
  -- a record belongs to one monitor
  pub one : (m n r : ℕ) → v.lock m ≡ locks.Fat r → v.lock n ≡ locks.Fat r → m ≡ n
  pub below : (m r : ℕ) → v.lock m ≡ locks.Fat r → (r < v.next) × (r < MONITOR_RECORDS)
  pub free : (m seen : ℕ) → v.lock m ≡ locks.Free seen → seen ≡ count m

-- two threads have drawn different records
abbrev pub DrewApart : Thread → Thread → Type 0
DrewApart s x = (r : ℕ) → drawn_by s.phase ≡ Some r → drawn_by x.phase ≡ Some r → ⊥

abbrev pub references_of : List Object → List ℕ
references_of objects = map (λ o. o.reference) objects

-- the threads that hold the flat lock of m; of these there is one at most
abbrev pub one_if_flat : Hold → ℕ
one_if_flat HeldFlat = 1
one_if_flat hold = 0

abbrev pub flat_holders : (m : ℕ) → List Thread → ℕ
flat_holders m threads = sum_by (λ x. one_if_flat (hold_by_list (held_at x.held m))) threads

-- of a state with these objects
pub record Owners (references : List ℕ) (was : ℕ → Phase) (s : Core) : Type 0 where
  pub count : ℕ → ℕ
  pub locks_are : AreLocks (locks_in references s.words) count
  pub each : (t : ℕ) (x : Thread) → slice_get s.threads t ≡ Some x
      → Owns (locks_in references s.words) count t (was t) x
  pub apart : (t u : ℕ) (x y : Thread) → slice_get s.threads t ≡ Some x
      → slice_get s.threads u ≡ Some y → t ≢ u → DrewApart x y
  -- no release leaves more than the last count
  pub within : (m t : ℕ) (x : Thread) → slice_get s.threads t ≡ Some x → count m ≤ x.cfg.range
  -- a count is a number of releases, each of a lock that was taken
  pub few : (m : ℕ) → count m + flat_holders m s.threads ≤ sum_by (λ x. x.counts.locked) s.threads
