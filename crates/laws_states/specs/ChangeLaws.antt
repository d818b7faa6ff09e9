-- Who may change what. From one state of a run to the one behind an event: a fat lock stays fat, a
-- lock gets free by its holder alone, which raises the count up to the last one, and the waiting
-- bits of a record are changed by its owner alone. From any state: an event changes no other
-- thread, and the begin of a part changes no word, no attempt and nothing that is held.
use Rattle.std.specs.Prelude.{◌≡◌, ◌≢◌, ◌⊎◌, ℕ, ◌+◌, ◌<◌, true, false, List, [], ◌∷◌, map, Option}
use Rattle.std.specs.Prelude.{Some, None, slice_get}
use Rattle.checked_program.specs.MarkedProgram.{MarkedProgram, IsMarked}
use Rattle.machine_types.specs.Core.{Core, Happening, Of, NextPart, happened, core, start, event}
use Rattle.machine_types.specs.Core.{next}
use Rattle.machine_types.specs.HeldMonitors.{held_at}
use Rattle.machine_types.specs.LockWords.{next_count}
use Rattle.machine_types.specs.Owners.{Locks, owner_at, locks_in, references_of}
use Rattle.machine_types.specs.PlainMemory.{Object, start_objects}
use Rattle.machine_types.specs.Settings.{AreSettings}
use Rattle.machine_types.specs.Threads.{Attempt, Thread}
use Rattle.machine_types.specs.Waiting.{is_bit_set}
use Rattle.machine_types.specs.declared.config.Config.{Config}
use Rattle.machine_types.specs.declared.lock.Held.{Held}
use Rattle.machine_types.specs.declared.lock.Kept.TheVariants as keeps
use Rattle.machine_types.specs.declared.lock.LockWord.{LockWord}
use Rattle.machine_types.specs.declared.lock.LockWord.TheVariants as locks
use Rattle.machine_types.specs.declared.phase.Phase.{Phase}
use Rattle.machine_types.specs.declared.phase.Phase.TheVariants as phases
use Rattle.jvm_types.specs.declared.fixed_words.TheConstants.{MONITOR_RECORDS}
use Rattle.laws_states.specs.HeapFacts.{objects_after}
use Rattle.laws_states.specs.RunFacts.{HaveWidth}
use Rattle.laws_states.specs.StateFacts.{StateFacts}

-- ---- locks

-- a thread holds a flat lock, and has kept this count of it
abbrev pub KeepsFlat : Option Held → (n : ℕ) → Type 0
KeepsFlat None n = ⊥
KeepsFlat (Some h) n = h.kept ≡ keeps.Flat n

-- the count is the one behind the count that it kept
abbrev pub IsFreed : Option Held → (range seen : ℕ) → Type 0
IsFreed held range seen = (n : ℕ) × KeepsFlat held n × (seen ≡ next_count n range)

-- What an event of thread t, with this entry of what it holds, may make of a lock word: it takes a
-- free lock, flags one that is held, and lets its own go or makes it fat.
abbrev pub LockGoes : (t range : ℕ) → Option Held → (was now : LockWord) → Type 0
LockGoes t range held (locks.Free n) (locks.Held u) = u ≡ t
LockGoes t range held (locks.Held u) (locks.Flagged w) = w ≡ u
LockGoes t range held (locks.Held u) (locks.Free n) = (u ≡ t) × IsFreed held range n
LockGoes t range held (locks.Held u) (locks.Fat r) = u ≡ t
LockGoes t range held (locks.Flagged u) (locks.Free n) = (u ≡ t) × IsFreed held range n
LockGoes t range held (locks.Flagged u) (locks.Fat r) = u ≡ t
LockGoes t range held was now = ⊥

-- by an event of thread t, which held these monitors
pub record LocksFollow (v w : Locks) (t range : ℕ) (held : List Held) : Type 0 where
  pub goes : (m : ℕ)
      → (w.lock m ≡ v.lock m) ⊎ LockGoes t range (held_at held m) (v.lock m) (w.lock m)
  -- with its record
  pub fat : (m r : ℕ) → v.lock m ≡ locks.Fat r → w.lock m ≡ locks.Fat r
  -- a free lock was free before with the same count, or the thread has let it go
  pub freed : (m seen : ℕ) → w.lock m ≡ locks.Free seen
      → (v.lock m ≡ locks.Free seen) ⊎ IsFreed (held_at held m) range seen

-- what its thread keeps afterwards it kept before, or it is the count that the free lock had
abbrev pub CountsFollow : (v : Locks) (held later : List Held) → Type 0
CountsFollow v held later =
    (m n : ℕ) → KeepsFlat (held_at later m) n
    → KeepsFlat (held_at held m) n ⊎ (v.lock m ≡ locks.Free n)

-- ---- waiting bits

abbrev pub Sets : Phase → (r : ℕ) → Type 0
Sets (phases.WaitBit m k) r = k ≡ r
Sets phase r = ⊥

abbrev pub Clears : Phase → (r u : ℕ) → Type 0
Clears (phases.NotifyOne m k w) r u = (k ≡ r) × (w ≡ u)
Clears (phases.NotifyAll m k) r u = k ≡ r
Clears phase r u = ⊥

-- by an event of thread t in this phase: it owns each record whose bits it changes, and sets its
-- own bit alone
pub record BitsFollow (words after : List ℕ) (t : ℕ) (phase : Phase) : Type 0 where
  pub set : (r u : ℕ) → r < MONITOR_RECORDS → is_bit_set words r u ≡ false
      → is_bit_set after r u ≡ true → (u ≡ t) × (owner_at words r ≡ t + 1) × Sets phase r
  pub cleared : (r u : ℕ) → r < MONITOR_RECORDS → is_bit_set words r u ≡ true
      → is_bit_set after r u ≡ false → (owner_at words r ≡ t + 1) × Clears phase r u

-- ---- an event of a thread of a state

pub record IsFollowed (c : MarkedProgram) (cfg : Config) (objects : List Object) (s : Core) (t : ℕ)
    (x : Thread) : Type 0 where
  pub locks_follow : LocksFollow (locks_in (references_of objects) s.words)
      (locks_in (references_of (objects_after c.program s t objects)) (event c s t).words) t
      cfg.range x.held
  pub counts_follow : (y : Thread) → slice_get (event c s t).threads t ≡ Some y
      → CountsFollow (locks_in (references_of objects) s.words) x.held y.held
  pub bits_follow : BitsFollow s.words (event c s t).words t x.phase

-- of every state of which the facts hold
abbrev pub EventsRespectOwners : Type 0
EventsRespectOwners = (c : MarkedProgram) (cfg : Config) (objects : List Object) (was : ℕ → Phase)
    (s : Core) (t : ℕ) (x : Thread) → IsMarked c → StateFacts c cfg objects was s
    → slice_get s.threads t ≡ Some x → IsFollowed c cfg objects s t x

-- ---- every run

-- the objects whose header is stored: those of the start, and one more with each header
abbrev pub objects_behind : MarkedProgram → Core → Happening → List Object → List Object
objects_behind c s (Of t) objects = objects_after c.program s t objects
objects_behind c s NextPart objects = objects

abbrev pub all_objects : MarkedProgram → Core → List Object → List Happening → List Object
all_objects c s objects [] = objects
all_objects c s objects (h ∷ hs) = all_objects c (happened c s h) (objects_behind c s h objects) hs

abbrev pub run_objects : MarkedProgram → Config → List Happening → List Object
run_objects c cfg hs = all_objects c (start c cfg) (start_objects c.program) hs

-- from every state that a run reaches, by an event of any thread
abbrev pub RunsRespectOwners : Type 0
RunsRespectOwners = (c : MarkedProgram) (cfg : Config) (hs : List Happening) (t : ℕ) (x : Thread)
    → IsMarked c → HaveWidth cfg → AreSettings cfg → slice_get (core c cfg hs).threads t ≡ Some x
    → IsFollowed c cfg (run_objects c cfg hs) (core c cfg hs) t x

-- ---- every state, whatever its threads and words

abbrev pub EventsLeaveOthers : Type 0
EventsLeaveOthers = (c : MarkedProgram) (s : Core) (t u : ℕ) → u ≢ t
    → slice_get (event c s t).threads u ≡ slice_get s.threads u

abbrev pub attempts : List Thread → List (Option Attempt)
attempts threads = map (λ (x : Thread). x.attempt) threads

abbrev pub held_lists : List Thread → List (List Held)
held_lists threads = map (λ (x : Thread). x.held) threads

-- as they were: all words, and of each thread its attempt and what it holds
pub record IsLeftAsWas (s after : Core) : Type 0 where
  pub words : after.words ≡ s.words
  pub attempts_left : attempts after.threads ≡ attempts s.threads
  pub held_left : held_lists after.threads ≡ held_lists s.threads

abbrev pub PartsLeaveWords : Type 0
PartsLeaveWords = (c : MarkedProgram) (s : Core) → IsLeftAsWas s (next c s)
