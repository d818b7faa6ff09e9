-- The facts on states hold at the start of a run, whatever event happens, and where a part of the
-- run begins; so in every state that a run reaches.
use Rattle.std.specs.Prelude.{ℕ, List}
use Rattle.checked_program.specs.MarkedProgram.{MarkedProgram, IsMarked}
use Rattle.machine_types.specs.Core.{Core, Happening, core, start, event, next}
use Rattle.machine_types.specs.PlainMemory.{Object, start_objects}
use Rattle.machine_types.specs.Settings.{AreSettings}
use Rattle.machine_types.specs.StartLaws.{phase_at_start}
use Rattle.machine_types.specs.declared.config.Config.{Config}
use Rattle.machine_types.specs.declared.phase.Phase.{Phase}
use Rattle.laws_threads.specs.PartLaws.{counted_next}
use Rattle.laws_threads.specs.StateLaws.{counted_after}
use Rattle.laws_states.specs.HeapFacts.{objects_after}
use Rattle.laws_states.specs.RunFacts.{HaveWidth, RunFacts}
use Rattle.laws_states.specs.RunLaws.{PartsKeepThreads}
use Rattle.laws_states.specs.StateFacts.{StateFacts}

-- the threads of the start, and of each part that begins, are lawful
abbrev pub ProgramsKeepThreads : Type 0
ProgramsKeepThreads = (c : MarkedProgram) (cfg : Config) → IsMarked c → AreSettings cfg
    → PartsKeepThreads c cfg

abbrev pub StatesHaveFacts : Type 0
StatesHaveFacts = (c : MarkedProgram) (cfg : Config) (objects : List Object) (was : ℕ → Phase)
    (s : Core) → StateFacts c cfg objects was s → RunFacts c cfg s

abbrev pub StartHasState : Type 0
StartHasState = (c : MarkedProgram) (cfg : Config) → IsMarked c → PartsKeepThreads c cfg
    → StateFacts c cfg (start_objects c.program) (phase_at_start c cfg) (start c cfg)

abbrev pub EventsKeepState : Type 0
EventsKeepState = (c : MarkedProgram) (cfg : Config) (objects : List Object) (was : ℕ → Phase)
    (s : Core) (t : ℕ) → IsMarked c → HaveWidth cfg → StateFacts c cfg objects was s
    → StateFacts c cfg (objects_after c.program s t objects) (counted_after c was s t) (event c s t)

abbrev pub NextKeepsState : Type 0
NextKeepsState = (c : MarkedProgram) (cfg : Config) (objects : List Object) (was : ℕ → Phase)
    (s : Core) → IsMarked c → PartsKeepThreads c cfg → StateFacts c cfg objects was s
    → StateFacts c cfg objects (counted_next c was s) (next c s)

-- ---- every run

pub record IsInState (c : MarkedProgram) (cfg : Config) (s : Core) : Type 0 where
  pub objects : List Object
  pub was : ℕ → Phase
  pub facts : StateFacts c cfg objects was s

abbrev pub RunsHaveState : Type 0
RunsHaveState = (c : MarkedProgram) (cfg : Config) (hs : List Happening) → IsMarked c
    → HaveWidth cfg → PartsKeepThreads c cfg → IsInState c cfg (core c cfg hs)
