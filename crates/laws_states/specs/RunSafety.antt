-- Every run is safe: in each state that it reaches the threads are lawful, their accesses fit, and
-- no live thread is stuck or stands still.
use Rattle.std.specs.Prelude.{◌≡◌, ◌≢◌, ℕ, true, List, [], ◌∷◌, Some, IsSome, slice_get}
use Rattle.jvm_types.specs.declared.program.Program.{Program}
use Rattle.checked_program.specs.MarkedProgram.{MarkedProgram, IsMarked}
use Rattle.machine_types.specs.Accesses.{found_by}
use Rattle.machine_types.specs.Core.{Core, Happening, core, is_live}
use Rattle.machine_types.specs.Events.{wanted, moved}
use Rattle.machine_types.specs.FoundWords.{WordFits, effect_content}
use Rattle.machine_types.specs.Frames.{Top, top_of, effect_at}
use Rattle.machine_types.specs.HeldMonitors.{held_at}
use Rattle.machine_types.specs.Lawful.{IsLawful}
use Rattle.machine_types.specs.Monitors.{HasNot, claim}
use Rattle.machine_types.specs.Onward.{after, dispatched, done}
use Rattle.machine_types.specs.Settings.{AreSettings}
use Rattle.machine_types.specs.Structure.{IsFlat}
use Rattle.machine_types.specs.Threads.{Frame, Thread}
use Rattle.machine_types.specs.declared.config.Config.{Config}
use Rattle.machine_types.specs.declared.effect.Effect.{Effect}
use Rattle.machine_types.specs.declared.effect.Effect.TheVariants.{Indexes, Makes, Returns, Waits}
use Rattle.machine_types.specs.declared.effect.Effect.TheVariants.{Notifies, NotifiesAll}
use Rattle.machine_types.specs.declared.phase.After.{After}
use Rattle.machine_types.specs.declared.phase.After.TheVariants.{Return, Unwind}
use Rattle.machine_types.specs.declared.phase.Phase.{Phase}
use Rattle.machine_types.specs.declared.phase.Phase.TheVariants as phases
use Rattle.laws_threads.specs.TopFrames.{IsAllowed}
use Rattle.laws_states.specs.RunFacts.{HaveWidth, AccessFits}

-- ---- returns

-- the frame below, where there is one, stands at an instruction
abbrev pub HasCaller : Program → (below : List Frame) → Type 0
HasCaller p [] = Unit {0}
HasCaller p below = IsSome (top_of p below)

-- ---- an instruction

-- it goes on by the word that it found; for elements, new objects and monitors `did` says how in
-- every case
abbrev pub GoesOnBy : Program → Top → Effect → (got : ℕ) → Type 0
GoesOnBy p at (Indexes array index stored) got = Unit {0}
GoesOnBy p at (Makes word size) got = Unit {0}
GoesOnBy p at (Waits m) got = Unit {0}
GoesOnBy p at (Notifies m) got = Unit {0}
GoesOnBy p at (NotifiesAll m) got = Unit {0}
GoesOnBy p at Returns got = HasCaller p at.below
GoesOnBy p at e got = IsSome (done p at e got)

pub record HasInstruction (p : Program) (frames : List Frame) : Type 0 where
  pub at : Top
  pub found : top_of p frames ≡ Some at
  -- its effect is not `Stuck`, and what it names is there
  pub allowed : IsAllowed p at (effect_at p at)
  -- by every word that fits
  pub goes_on : (got : ℕ) → WordFits p (effect_content p at.target (effect_at p at)) got
      → GoesOnBy p at (effect_at p at) got

-- ---- behind a monitor

abbrev pub HasAfter : Program → After → List Frame → Type 0
HasAfter p Return frames = (at : Top) × (top_of p frames ≡ Some at) × HasCaller p at.below
HasAfter p (Unwind x class) frames = IsSome (top_of p frames)
HasAfter p a frames = IsSome (after p frames a)

-- ---- all phases

-- the next root is a method
abbrev pub HasRoot : Program → (roots : List ℕ) → Type 0
HasRoot p [] = ⊥
HasRoot p (number ∷ roots) = IsSome (slice_get p.methods number)

-- What the next event of a thread takes, beside what its phase has, is there. The definitions
-- answer without it too, and so hide the want: the thread stays as it is, or a return or an
-- exception ends its root, or a lock is released as from the count 0. An attempt, which an entry
-- may begin, copies the top frame.
abbrev pub HasEvent : MarkedProgram → Thread → Phase → Type 0
HasEvent c x phases.Idle = ⊥
HasEvent c x (phases.Ended e) = ⊥
HasEvent c x phases.Start = HasRoot c.program x.roots
HasEvent c x phases.Run = HasInstruction c.program x.frames
HasEvent c x (phases.Element word stored) = IsSome (top_of c.program x.frames)
HasEvent c x (phases.Made a word) = IsSome (top_of c.program x.frames)
HasEvent c x (phases.Throw r class) = IsSome (dispatched c.program r class x.frames)
HasEvent c x (phases.Enter m tried) = IsSome (top_of c.program x.frames)
HasEvent c x (phases.Leave m a) = (claim x m ≢ HasNot) × HasAfter c.program a x.frames
HasEvent c x (phases.FlatOut m a) = IsFlat (held_at x.held m) × HasAfter c.program a x.frames
HasEvent c x (phases.FatIn m r toward) = IsSome (held_at x.held m)
HasEvent c x (phases.WaitOut m r) = IsSome (held_at x.held m)
HasEvent c x phase = Unit {0}

-- ---- a thread of a state

pub record IsSafe (c : MarkedProgram) (s : Core) (x : Thread) : Type 0 where
  pub lawful : IsLawful c x
  pub access : AccessFits c s x
  pub goes : is_live x.phase ≡ true → HasEvent c x x.phase
  -- and its next event changes it; a turn that failed is counted, too
  pub moves : is_live x.phase ≡ true → moved c x x.phase (found_by s.words (wanted c x x.phase)) ≢ x

-- in every state that a run reaches
abbrev pub RunsAreSafe : Type 0
RunsAreSafe = (c : MarkedProgram) (cfg : Config) (hs : List Happening) (t : ℕ) (x : Thread)
    → IsMarked c → HaveWidth cfg → AreSettings cfg → slice_get (core c cfg hs).threads t ≡ Some x
    → IsSafe c (core c cfg hs) x
