-- In every run: where an attempt begins, how many fail at one entry, how one ends and what a
-- failure leaves, that an instruction brings a thread to its entry, and what an event inside an
-- attempt accesses (PLDI 2010 publication, of read-only sections without their lock; how often a
-- section is tried is the machine's own).
use Rattle.std.specs.Prelude.{◌≡◌, ℕ, ◌+◌, ◌<◌, ◌≤◌, true, List, ◌∷◌, length, Contains, Some, None}
use Rattle.std.specs.Prelude.{slice_get, slice_index}
use Rattle.checked_program.specs.MarkedProgram.{MarkedProgram, IsMarked}
use Rattle.checked_program.specs.declared.section.SectionMark.{SectionMark}
use Rattle.checked_program.specs.declared.section.Spot.{Spot}
use Rattle.checked_program.specs.declared.section.Spot.TheVariants.{Method, Block}
use Rattle.machine_types.specs.Accesses.{found_by}
use Rattle.machine_types.specs.Core.{Core, Happening, core, event}
use Rattle.machine_types.specs.Elision.{put_back}
use Rattle.machine_types.specs.Events.{wanted}
use Rattle.machine_types.specs.Frames.{Top, top_of, effect_at}
use Rattle.machine_types.specs.Going.{runs}
use Rattle.machine_types.specs.HeldMonitors.{held_at}
use Rattle.machine_types.specs.History.{Fate, GoesOn, Fails, Finishes, fate}
use Rattle.machine_types.specs.LockWords.{word_of_lock}
use Rattle.machine_types.specs.Onward.{Entering, done}
use Rattle.machine_types.specs.Settings.{AreSettings}
use Rattle.machine_types.specs.Threads.{Attempt, Frame, Thread}
use Rattle.machine_types.specs.declared.access.Access.TheVariants.{Load}
use Rattle.machine_types.specs.declared.config.Config.{Config}
use Rattle.machine_types.specs.declared.lock.LockWord.TheVariants as locks
use Rattle.machine_types.specs.declared.phase.Phase.TheVariants as phases
use Rattle.laws_states.specs.RunFacts.{HaveWidth}
use Rattle.laws_refinement.specs.Entries.{failed_here, HasFailedCount, OnlyLooks}

-- ---- how many fail: the 2 is written out here and in `Entries`, so that a statement says by
-- itself what the limit `MOST_ATTEMPTS` keeps

-- what a thread keeps is what its events tell
abbrev pub ThreadsKeepCount : Type 0
ThreadsKeepCount =
    (c : MarkedProgram) (cfg : Config) (hs : List Happening) (t : ℕ) → IsMarked c → HaveWidth cfg
    → AreSettings cfg → HasFailedCount (core c cfg hs) t (failed_here c cfg hs t)

abbrev pub FewFail : Type 0
FewFail =
    (c : MarkedProgram) (cfg : Config) (hs : List Happening) (t : ℕ) → IsMarked c → HaveWidth cfg
    → AreSettings cfg → failed_here c cfg hs t ≤ 2

-- ---- where one begins

-- The pc at which a section begins: that of a method is 0, and a block begins behind its
-- `monitorenter`, which is one byte long.
abbrev pub BeginsBehind : Spot → (pc : ℕ) → Type 0
BeginsBehind Method pc = pc ≡ 0
BeginsBehind (Block enter) pc = pc ≡ enter + 1

-- the top frame is at the begin of a section with the mark 0
pub record IsAtMarked (c : MarkedProgram) (frames : List Frame) : Type 0 where
  pub frame : Frame
  pub below : List Frame
  pub is : frames ≡ frame ∷ below
  pub mark : SectionMark
  pub there : Contains c.marks mark
  pub of_method : mark.method ≡ frame.method
  pub spot : BeginsBehind mark.spot frame.pc
  pub none : mark.mark ≡ 0

-- Thread x is at the entry of a marked section, with attempts turned on; it neither holds the
-- monitor nor is in an attempt, and fewer than two have failed at this entry; and the monitor is
-- free, with a count below the last one.
pub record IsAttemptDue (c : MarkedProgram) (cfg : Config) (s : Core) (x : Thread)
    (failed m count : ℕ) : Type 0 where
  pub tried : ℕ
  pub enters : x.phase ≡ phases.Enter m tried
  pub marked : IsAtMarked c x.frames
  pub elides : cfg.elide ≡ true
  pub not_held : held_at x.held m ≡ None
  pub outside : x.attempt ≡ None
  pub few : failed < 2
  pub is_free : slice_index s.words m ≡ word_of_lock (locks.Free count)
  pub not_last : count < cfg.range

-- Thread x, which is y behind its event, has begun an attempt on m by a load of its lock word: it
-- notes the count and the frame that enters, runs on within the limit of instructions, and has its
-- frames, the monitors that it holds and its count of turns as they were.
pub record HasBegunAttempt (c : MarkedProgram) (x y : Thread) (failed m count : ℕ) : Type 0 where
  pub loads : wanted c x x.phase ≡ Some (Load m)
  pub attempt : Attempt
  pub is : y.attempt ≡ Some attempt
  pub monitor : attempt.monitor ≡ m
  pub noted : attempt.noted ≡ count
  pub number : attempt.number ≡ failed + 1
  pub inner : attempt.inner ≡ 0
  pub below : List Frame
  pub entry : x.frames ≡ attempt.entry ∷ below
  pub base : attempt.base ≡ length below
  pub phase : y.phase ≡ (runs x).phase
  pub frames : y.frames ≡ x.frames
  pub held : y.held ≡ x.held
  pub turns : y.turns ≡ x.turns

-- where it is due, one begins
abbrev pub DueBegin : Type 0
DueBegin =
    (c : MarkedProgram) (cfg : Config) (hs : List Happening) (t : ℕ) (x y : Thread) (m count : ℕ)
    → IsMarked c → HaveWidth cfg → AreSettings cfg → slice_get (core c cfg hs).threads t ≡ Some x
    → slice_get (event c (core c cfg hs) t).threads t ≡ Some y
    → IsAttemptDue c cfg (core c cfg hs) x (failed_here c cfg hs t) m count
    → HasBegunAttempt c x y (failed_here c cfg hs t) m count

-- and nowhere else, and by nothing but a load of the lock word
abbrev pub BegunAreDue : Type 0
BegunAreDue =
    (c : MarkedProgram) (cfg : Config) (hs : List Happening) (t : ℕ) (x y : Thread) (a : Attempt)
    → IsMarked c → HaveWidth cfg → AreSettings cfg → slice_get (core c cfg hs).threads t ≡ Some x
    → slice_get (event c (core c cfg hs) t).threads t ≡ Some y → x.attempt ≡ None
    → y.attempt ≡ Some a
    → IsAttemptDue c cfg (core c cfg hs) x (failed_here c cfg hs t) a.monitor a.noted
    × (wanted c x x.phase ≡ Some (Load a.monitor))

-- an attempt that is open stays the same one, but for how often its monitor was entered inside,
-- until it ends
abbrev pub AttemptsStay : Type 0
AttemptsStay =
    (c : MarkedProgram) (cfg : Config) (hs : List Happening) (t : ℕ) (x y : Thread) (a b : Attempt)
    → IsMarked c → HaveWidth cfg → AreSettings cfg → slice_get (core c cfg hs).threads t ≡ Some x
    → slice_get (event c (core c cfg hs) t).threads t ≡ Some y → x.attempt ≡ Some a
    → y.attempt ≡ Some b → b ≡ record a { inner = b.inner }

-- ---- how one ends

-- what the next event of a thread does with its attempt
abbrev pub fate_here : MarkedProgram → Core → Thread → Attempt → Fate
fate_here c s x a = fate c x a x.phase (found_by s.words (wanted c x x.phase))

-- of a thread that is y behind its event: the attempt a is open still, or it is over, and where its
-- section is done the thread is at no entry
abbrev pub EndsBy : Fate → Attempt → (y : Thread) → Type 0
EndsBy GoesOn a y = (inner : ℕ) × (y.attempt ≡ Some (record a { inner = inner }))
EndsBy Fails a y = y.attempt ≡ None
EndsBy Finishes a y = (y.attempt ≡ None) × ((m tried : ℕ) → y.phase ≡ phases.Enter m tried → ⊥)

-- an attempt is open until it fails, or its section is done
abbrev pub AttemptsEnd : Type 0
AttemptsEnd =
    (c : MarkedProgram) (cfg : Config) (hs : List Happening) (t : ℕ) (x y : Thread) (a : Attempt)
    → IsMarked c → HaveWidth cfg → AreSettings cfg → slice_get (core c cfg hs).threads t ≡ Some x
    → slice_get (event c (core c cfg hs) t).threads t ≡ Some y → x.attempt ≡ Some a
    → EndsBy (fate_here c (core c cfg hs) x a) a y

-- ---- what a failure leaves

-- Thread x, which is y behind its event, has failed in the attempt a: the frames above the one that
-- entered are dropped, and that is as it was; it holds what it held, has its count of turns, and is
-- to enter again.
pub record HasFailed (x y : Thread) (a : Attempt) : Type 0 where
  pub outside : y.attempt ≡ None
  pub enters : y.phase ≡ phases.Enter a.monitor a.number
  pub frames : y.frames ≡ put_back a x.frames
  pub held : y.held ≡ x.held
  pub turns : y.turns ≡ x.turns
  pub counted : y.counts.failed ≡ x.counts.failed + 1

-- the words stay too
abbrev pub FailuresPutBack : Type 0
FailuresPutBack =
    (c : MarkedProgram) (cfg : Config) (hs : List Happening) (t : ℕ) (x y : Thread) (a : Attempt)
    → IsMarked c → HaveWidth cfg → AreSettings cfg → slice_get (core c cfg hs).threads t ≡ Some x
    → slice_get (event c (core c cfg hs) t).threads t ≡ Some y → x.attempt ≡ Some a
    → fate_here c (core c cfg hs) x a ≡ Fails
    → HasFailed x y a × ((event c (core c cfg hs) t).words ≡ (core c cfg hs).words)

-- an event that fails no attempt is counted as no failure
abbrev pub OnlyFailuresCount : Type 0
OnlyFailuresCount =
    (c : MarkedProgram) (cfg : Config) (hs : List Happening) (t : ℕ) (x y : Thread) → IsMarked c
    → HaveWidth cfg → AreSettings cfg → slice_get (core c cfg hs).threads t ≡ Some x
    → slice_get (event c (core c cfg hs) t).threads t ≡ Some y
    → ((a : Attempt) → x.attempt ≡ Some a → fate_here c (core c cfg hs) x a ≡ Fails → ⊥)
    → y.counts.failed ≡ x.counts.failed

-- ---- how a thread comes to an entry

-- Thread x, which is y behind its event, is about to enter m in these frames, with nothing tried
-- there and no turn counted. It holds what it held, and is in the same attempt, or in none.
pub record IsToEnter (x y : Thread) (m : ℕ) (fs : List Frame) : Type 0 where
  pub enters : y.phase ≡ phases.Enter m 0
  pub frames : y.frames ≡ fs
  pub turns : y.turns ≡ 0
  pub held : y.held ≡ x.held
  pub attempt : y.attempt ≡ x.attempt

-- An instruction that comes to a monitor, by the definition that the plain machine shares, leaves
-- its thread at the entry, unless an attempt fails by it.
abbrev pub InstructionsEnter : Type 0
InstructionsEnter =
    (c : MarkedProgram) (cfg : Config) (hs : List Happening) (t : ℕ) (x y : Thread) (at : Top)
    (m : ℕ) (fs : List Frame) → slice_get (core c cfg hs).threads t ≡ Some x
    → slice_get (event c (core c cfg hs) t).threads t ≡ Some y → x.phase ≡ phases.Run
    → top_of c.program x.frames ≡ Some at
    → done c.program at (effect_at c.program at)
    (found_by (core c cfg hs).words (wanted c x x.phase)) ≡ Some (Entering m fs)
    → ((a : Attempt) → x.attempt ≡ Some a → fate_here c (core c cfg hs) x a ≡ Fails → ⊥)
    → IsToEnter x y m fs

-- ---- what an event inside one accesses

abbrev pub AttemptsOnlyLook : Type 0
AttemptsOnlyLook =
    (c : MarkedProgram) (cfg : Config) (hs : List Happening) (t : ℕ) (x : Thread) (a : Attempt)
    → IsMarked c → HaveWidth cfg → AreSettings cfg → slice_get (core c cfg hs).threads t ≡ Some x
    → x.attempt ≡ Some a → OnlyLooks x.phase (wanted c x x.phase)
