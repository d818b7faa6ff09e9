-- What the words hold for locking, of counters and of objects is so at the start of a run, and
-- stays so; so each word that an event finds is what it is read as.
use Rattle.std.specs.Prelude.{◌≡◌, ℕ, List, Some, slice_get}
use Rattle.checked_program.specs.MarkedProgram.{MarkedProgram, IsMarked}
use Rattle.machine_types.specs.Core.{Core, Happening, core, start, event, next}
use Rattle.machine_types.specs.Threads.{Thread}
use Rattle.machine_types.specs.declared.config.Config.{Config}
use Rattle.laws_states.specs.RunFacts.{HaveWidth, AreThreads, RunFacts, AccessFits}

abbrev pub StartHasRunFacts : Type 0
StartHasRunFacts = (c : MarkedProgram) (cfg : Config) → IsMarked c → RunFacts c cfg (start c cfg)

abbrev pub EventsKeepFacts : Type 0
EventsKeepFacts = (c : MarkedProgram) (cfg : Config) (s : Core) (t : ℕ) → IsMarked c → HaveWidth cfg
    → AreThreads c cfg s → RunFacts c cfg s → RunFacts c cfg (event c s t)

abbrev pub NextKeepsFacts : Type 0
NextKeepsFacts = (c : MarkedProgram) (cfg : Config) (s : Core) → AreThreads c cfg s
    → RunFacts c cfg s → RunFacts c cfg (next c s)

abbrev pub ReachedFits : Type 0
ReachedFits = (c : MarkedProgram) (cfg : Config) (s : Core) (t : ℕ) (x : Thread) → IsMarked c
    → HaveWidth cfg → AreThreads c cfg s → RunFacts c cfg s → slice_get s.threads t ≡ Some x
    → AccessFits c s x

-- the threads stay lawful
abbrev pub EventsKeepThreads : Type 0
EventsKeepThreads = (c : MarkedProgram) (cfg : Config) (s : Core) (t : ℕ) → IsMarked c
    → HaveWidth cfg → AreThreads c cfg s → RunFacts c cfg s → AreThreads c cfg (event c s t)

-- ---- every run

-- the threads of the start, and of each part that begins, are lawful too
pub record PartsKeepThreads (c : MarkedProgram) (cfg : Config) : Type 0 where
  pub begin : AreThreads c cfg (start c cfg)
  pub go_on : (s : Core) → AreThreads c cfg s → AreThreads c cfg (next c s)

pub record HasRunFacts (c : MarkedProgram) (cfg : Config) (s : Core) : Type 0 where
  pub threads : AreThreads c cfg s
  pub facts : RunFacts c cfg s

abbrev pub RunsReach : Type 0
RunsReach = (c : MarkedProgram) (cfg : Config) (hs : List Happening) → IsMarked c → HaveWidth cfg
    → PartsKeepThreads c cfg → HasRunFacts c cfg (core c cfg hs)
