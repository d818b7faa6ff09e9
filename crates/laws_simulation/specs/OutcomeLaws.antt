-- What an outcome says of the plain run that a run stands for: how many instructions it began and
-- sections it took, what it printed, and how its parts ended.
use Rattle.std.specs.Prelude.{◌≡◌, ◌≢◌, ℕ, ◌+◌, List, ◌++◌, Some, None, slice_get}
use Rattle.jvm_types.specs.declared.program.Program.{Program}
use Rattle.checked_program.specs.MarkedProgram.{MarkedProgram, IsMarked}
use Rattle.machine_types.specs.Accesses.{found_by}
use Rattle.machine_types.specs.Core.{Core, start, event, next, outcome}
use Rattle.machine_types.specs.Counting.{run_at, take_at, count_from, count_along, CountsFit}
use Rattle.machine_types.specs.Events.{wanted, moved}
use Rattle.machine_types.specs.Faithful.{EndsFit, PrintsFit, IsOver}
use Rattle.machine_types.specs.History.{Past, acts_of, steps_of}
use Rattle.machine_types.specs.PlainMemory.{Object}
use Rattle.machine_types.specs.PlainState.{Plain, plain_start}
use Rattle.machine_types.specs.PlainSteps.{plain_run}
use Rattle.machine_types.specs.Threads.{Thread}
use Rattle.machine_types.specs.declared.config.Config.{Config}
use Rattle.machine_types.specs.declared.phase.Phase.{Phase}
use Rattle.machine_types.specs.declared.plain.Act.{Act}
use Rattle.machine_types.specs.declared.plain.PlainStep.{PlainStep}
use Rattle.laws_states.specs.RunFacts.{HaveWidth}
use Rattle.laws_states.specs.StateFacts.{StateFacts}
use Rattle.laws_simulation.specs.StandsBeside.{StandsBeside}

-- ---- counts along plain runs

-- of a run and what follows it
abbrev pub CountsAppend : Type 0
CountsAppend =
    (p : Program) (count : Plain → PlainStep → ℕ) (xs ys : List PlainStep) (q : Plain)
    → count_along p count (xs ++ ys) q
    ≡ count_along p count xs q + count_from (count_along p count ys) (plain_run p q xs)

-- what a thread does counts for no other one
pub record CountNothing (p : Program) (u : ℕ) (steps : List PlainStep) (q : Plain) : Type 0 where
  pub runs : count_along p (run_at u) steps q ≡ 0
  pub takes : count_along p (take_at u) steps q ≡ 0

abbrev pub OthersAreNotCounted : Type 0
OthersAreNotCounted =
    (p : Program) (t u : ℕ) (acts : List Act) (q : Plain) → u ≢ t
    → CountNothing p u (steps_of t acts) q

-- ---- the event of a thread in no attempt, and the plain steps that it stands for

-- the word that it finds
abbrev pub found_now : MarkedProgram → Core → Thread → ℕ
found_now c s x = found_by s.words (wanted c x x.phase)

abbrev pub steps_now : MarkedProgram → Core → (t : ℕ) → Thread → List PlainStep
steps_now c s t x = steps_of t (acts_of c x x.phase (found_now c s x))

-- a thread x of number t that stands beside a plain state, from which the steps of its event are a
-- run
pub record StandsToMove (c : MarkedProgram) (cfg : Config) (objects : List Object) (was : ℕ → Phase)
    (s : Core) (t : ℕ) (x : Thread) (q after : Plain) : Type 0 where
  pub marked : IsMarked c
  pub width : HaveWidth cfg
  pub facts : StateFacts c cfg objects was s
  pub beside : StandsBeside c.program objects s q
  pub thread : slice_get s.threads t ≡ Some x
  pub outside : x.attempt ≡ None
  pub run : plain_run c.program q (steps_now c s t x) ≡ Some after

abbrev pub EventsAreCounted : Type 0
EventsAreCounted = (c : MarkedProgram) (cfg : Config) (objects : List Object) (was : ℕ → Phase)
    (s : Core) (t : ℕ) (x : Thread) (q after : Plain) (d : Past) (runs takes : ℕ)
    → StandsToMove c cfg objects was s t x q after → CountsFit x d runs takes
    → CountsFit (moved c x x.phase (found_now c s x)) d
    (runs + count_along c.program (run_at t) (steps_now c s t x) q)
    (takes + count_along c.program (take_at t) (steps_now c s t x) q)

-- ---- prints

abbrev pub PrintsAreKept : Type 0
PrintsAreKept = (c : MarkedProgram) (cfg : Config) (objects : List Object) (was : ℕ → Phase)
    (s : Core) (t : ℕ) (x : Thread) (q after : Plain)
    → StandsToMove c cfg objects was s t x q after → PrintsFit (outcome s) q
    → PrintsFit (outcome (event c s t)) after

abbrev pub NextKeepsPrints : Type 0
NextKeepsPrints =
    (c : MarkedProgram) (s : Core) (q : Plain) → PrintsFit (outcome s) q
    → PrintsFit (outcome (next c s)) q

abbrev pub StartHasPrints : Type 0
StartHasPrints =
    (c : MarkedProgram) (cfg : Config) → PrintsFit (outcome (start c cfg)) (plain_start c.program)

-- ---- ends

-- only thread 0 keeps how an earlier part ended
abbrev pub WorkersKeepNone : List Thread → Type 0
WorkersKeepNone threads =
    (t : ℕ) (x : Thread) → slice_get threads t ≡ Some x → t ≢ 0 → x.first ≡ None

abbrev pub EventsKeepNone : Type 0
EventsKeepNone =
    (c : MarkedProgram) (s : Core) (t : ℕ) → WorkersKeepNone s.threads
    → WorkersKeepNone (event c s t).threads

abbrev pub NextKeepsNone : Type 0
NextKeepsNone =
    (c : MarkedProgram) (s : Core) → WorkersKeepNone s.threads → WorkersKeepNone (next c s).threads

abbrev pub StartKeepsNone : Type 0
StartKeepsNone = (c : MarkedProgram) (cfg : Config) → WorkersKeepNone (start c cfg).threads

abbrev pub EndsAreThose : Type 0
EndsAreThose = (c : MarkedProgram) (cfg : Config) (objects : List Object) (was : ℕ → Phase)
    (s : Core) (q : Plain) → IsMarked c → StateFacts c cfg objects was s
    → StandsBeside c.program objects s q → WorkersKeepNone s.threads → IsOver s
    → EndsFit c.program (outcome s) q
