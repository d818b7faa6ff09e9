-- An event of a thread that is in no attempt stands for a run of the plain machine, to a state that
-- the new one stands beside.
use Rattle.std.specs.Prelude.{◌≡◌, ℕ, List, Some, None, slice_get}
use Rattle.checked_program.specs.MarkedProgram.{MarkedProgram, IsMarked}
use Rattle.machine_types.specs.Accesses.{found_by}
use Rattle.machine_types.specs.Core.{Core, start, event, next}
use Rattle.machine_types.specs.declared.effect.Effect.{Effect}
use Rattle.machine_types.specs.declared.effect.Effect.TheVariants.{Writes, Indexes, Makes, Waits}
use Rattle.machine_types.specs.declared.effect.Effect.TheVariants.{Notifies, NotifiesAll}
use Rattle.machine_types.specs.Events.{wanted}
use Rattle.machine_types.specs.Frames.{Top, top_of, effect_at}
use Rattle.machine_types.specs.History.{acts_of, steps_of}
use Rattle.machine_types.specs.PlainMemory.{Object, start_objects}
use Rattle.machine_types.specs.PlainState.{Plain, plain_start}
use Rattle.machine_types.specs.PlainSteps.{plain_run}
use Rattle.machine_types.specs.Threads.{Thread}
use Rattle.machine_types.specs.declared.config.Config.{Config}
use Rattle.machine_types.specs.declared.phase.Phase.{Phase}
use Rattle.machine_types.specs.declared.phase.Phase.TheVariants as phases
use Rattle.laws_states.specs.HeapFacts.{objects_after}
use Rattle.laws_states.specs.RunFacts.{HaveWidth}
use Rattle.laws_states.specs.StateFacts.{StateFacts}
use Rattle.laws_simulation.specs.StandsBeside.{StandsBeside}

-- the plain steps of the next event of thread t, which is x and in no attempt, and the plain state
-- that they lead to
pub record StepsBeside (c : MarkedProgram) (objects : List Object) (s : Core) (t : ℕ) (x : Thread)
    (q : Plain) : Type 0 where
  pub after : Plain
  pub run : plain_run c.program q
      (steps_of t (acts_of c x x.phase (found_by s.words (wanted c x x.phase)))) ≡ Some after
  pub beside : StandsBeside c.program (objects_after c.program s t objects) (event c s t) after

-- of the events of threads for which something holds
abbrev pub StepsWhere : (MarkedProgram → Thread → Type 0) → Type 0
StepsWhere Holds = (c : MarkedProgram) (cfg : Config) (objects : List Object) (was : ℕ → Phase)
    (s : Core) (t : ℕ) (x : Thread) (q : Plain) → IsMarked c → HaveWidth cfg
    → StateFacts c cfg objects was s → StandsBeside c.program objects s q
    → slice_get s.threads t ≡ Some x → x.attempt ≡ None → Holds c x → StepsBeside c objects s t x q

-- ---- the kinds of events

-- every other instruction: it writes no place, makes no object, and neither waits nor notifies
abbrev pub IsOfFrames : Effect → Type 0
IsOfFrames (Writes v word) = ⊥
IsOfFrames (Indexes array index stored) = ⊥
IsOfFrames (Makes word size) = ⊥
IsOfFrames (Waits m) = ⊥
IsOfFrames (Notifies m) = ⊥
IsOfFrames (NotifiesAll m) = ⊥
IsOfFrames e = Unit {0}

-- one that writes a place, looks for an element, or makes an object
abbrev pub IsOfMemory : Effect → Type 0
IsOfMemory (Writes v word) = Unit {0}
IsOfMemory (Indexes array index stored) = Unit {0}
IsOfMemory (Makes word size) = Unit {0}
IsOfMemory e = ⊥

abbrev pub IsOfWaiting : Effect → Type 0
IsOfWaiting (Waits m) = Unit {0}
IsOfWaiting (Notifies m) = Unit {0}
IsOfWaiting (NotifiesAll m) = Unit {0}
IsOfWaiting e = ⊥

-- it begins an instruction of a kind
pub record IsAtEffect (Kind : Effect → Type 0) (c : MarkedProgram) (x : Thread) : Type 0 where
  pub runs : x.phase ≡ phases.Run
  pub at : Top
  pub found : top_of c.program x.frames ≡ Some at
  pub kind : Kind (effect_at c.program at)

-- the next root, an element, a header, an exception
abbrev pub GoesOnPhase : Phase → Type 0
GoesOnPhase phases.Start = Unit {0}
GoesOnPhase (phases.Element word stored) = Unit {0}
GoesOnPhase (phases.Made a word) = Unit {0}
GoesOnPhase (phases.Throw y class) = Unit {0}
GoesOnPhase phase = ⊥

-- a monitor is entered, left, or its lock made fat
abbrev pub LocksPhase : Phase → Type 0
LocksPhase (phases.Enter m tried) = Unit {0}
LocksPhase (phases.Acquire m) = Unit {0}
LocksPhase (phases.Take m count) = Unit {0}
LocksPhase (phases.Flag m u) = Unit {0}
LocksPhase (phases.TakeFat m r) = Unit {0}
LocksPhase (phases.Leave m a) = Unit {0}
LocksPhase (phases.Grow m toward) = Unit {0}
LocksPhase (phases.FlatOut m a) = Unit {0}
LocksPhase (phases.Own m r toward) = Unit {0}
LocksPhase (phases.FatIn m r toward) = Unit {0}
LocksPhase phase = ⊥

-- every other phase: it waits, is woken, or wakes; or it ends or has ended, or has not begun
abbrev pub WaitsPhase : Phase → Type 0
WaitsPhase phases.Run = ⊥
WaitsPhase phases.Start = ⊥
WaitsPhase (phases.Element word stored) = ⊥
WaitsPhase (phases.Made a word) = ⊥
WaitsPhase (phases.Throw y class) = ⊥
WaitsPhase (phases.Enter m tried) = ⊥
WaitsPhase (phases.Acquire m) = ⊥
WaitsPhase (phases.Take m count) = ⊥
WaitsPhase (phases.Flag m u) = ⊥
WaitsPhase (phases.TakeFat m r) = ⊥
WaitsPhase (phases.Leave m a) = ⊥
WaitsPhase (phases.Grow m toward) = ⊥
WaitsPhase (phases.FlatOut m a) = ⊥
WaitsPhase (phases.Own m r toward) = ⊥
WaitsPhase (phases.FatIn m r toward) = ⊥
WaitsPhase phase = Unit {0}

-- ---- the laws

abbrev pub FrameSteps : Type 0
FrameSteps = StepsWhere (IsAtEffect IsOfFrames)

abbrev pub MemorySteps : Type 0
MemorySteps = StepsWhere (IsAtEffect IsOfMemory)

abbrev pub WaitingSteps : Type 0
WaitingSteps = StepsWhere (IsAtEffect IsOfWaiting)

abbrev pub OnwardSteps : Type 0
OnwardSteps = StepsWhere (λ c x. GoesOnPhase x.phase)

abbrev pub LockSteps : Type 0
LockSteps = StepsWhere (λ c x. LocksPhase x.phase)

abbrev pub WaitPhaseSteps : Type 0
WaitPhaseSteps = StepsWhere (λ c x. WaitsPhase x.phase)

-- where a part of the run begins, the plain machine makes no step
abbrev pub NextStandsBeside : Type 0
NextStandsBeside = (c : MarkedProgram) (cfg : Config) (objects : List Object) (was : ℕ → Phase)
    (s : Core) (q : Plain) → IsMarked c → StateFacts c cfg objects was s
    → StandsBeside c.program objects s q → StandsBeside c.program objects (next c s) q

abbrev pub StartStandsBesidePlain : Type 0
StartStandsBesidePlain = (c : MarkedProgram) (cfg : Config) → IsMarked c
    → StandsBeside c.program (start_objects c.program) (start c cfg) (plain_start c.program)
