-- How far the parts of a run have come is so at the start, and whatever event happens or part
-- begins, and no `<clinit>` runs beside a worker; and where no section may be tried, no thread is
-- in an attempt.
use Rattle.std.specs.Prelude.{◌≡◌, ℕ, false, List, Some, None, slice_get}
use Rattle.checked_program.specs.MarkedProgram.{MarkedProgram, IsMarked}
use Rattle.machine_types.specs.Core.{Core, Happening, core, start, event, next}
use Rattle.machine_types.specs.Guards.{IsOfClassInit, MakesClass}
use Rattle.machine_types.specs.Threads.{Thread}
use Rattle.machine_types.specs.declared.config.Config.{Config}
use Rattle.machine_types.specs.declared.phase.Phase.TheVariants as phases
use Rattle.laws_states.specs.RunFacts.{HaveWidth, AreThreads}
use Rattle.laws_states.specs.RunLaws.{PartsKeepThreads}
use Rattle.laws_states.specs.PartsStand.{PartsStand}
use Rattle.laws_states.specs.ClassInits.{ClassInitsComeFirst}

-- ---- parts

abbrev pub StartStandsInParts : Type 0
StartStandsInParts = (c : MarkedProgram) (cfg : Config) → PartsStand c.program (start c cfg).threads

-- of a linked program, where `done` is one method at most
abbrev pub EventsKeepParts : Type 0
EventsKeepParts = (c : MarkedProgram) (cfg : Config) (s : Core) (t : ℕ) → IsMarked c
    → AreThreads c cfg s → PartsStand c.program s.threads
    → PartsStand c.program (event c s t).threads

abbrev pub NextKeepsParts : Type 0
NextKeepsParts = (c : MarkedProgram) (s : Core) → PartsStand c.program s.threads
    → PartsStand c.program (next c s).threads

-- ---- each `<clinit>` comes first

abbrev pub StartPutsInitsFirst : Type 0
StartPutsInitsFirst = (c : MarkedProgram) (cfg : Config)
    → ClassInitsComeFirst c.program (start c cfg).threads

abbrev pub EventsPutInitsFirst : Type 0
EventsPutInitsFirst = (c : MarkedProgram) (cfg : Config) (s : Core) (t : ℕ) → IsMarked c
    → AreThreads c cfg s → ClassInitsComeFirst c.program s.threads
    → ClassInitsComeFirst c.program (event c s t).threads

abbrev pub NextPutsInitsFirst : Type 0
NextPutsInitsFirst = (c : MarkedProgram) (cfg : Config) (s : Core) → AreThreads c cfg s
    → ClassInitsComeFirst c.program s.threads → ClassInitsComeFirst c.program (next c s).threads

-- where an instruction of one begins, no worker has begun
abbrev pub ClassInitsRunAlone : Type 0
ClassInitsRunAlone = (c : MarkedProgram) (cfg : Config) (s : Core) (t class : ℕ) (x : Thread)
    → AreThreads c cfg s → ClassInitsComeFirst c.program s.threads → slice_get s.threads t ≡ Some x
    → x.phase ≡ phases.Run → IsOfClassInit c class x.frames → MakesClass c class s x

-- ---- attempts

abbrev pub HaveNoAttempts : Core → Type 0
HaveNoAttempts s = (t : ℕ) (x : Thread) → slice_get s.threads t ≡ Some x → x.attempt ≡ None

abbrev pub StartHasNoAttempts : Type 0
StartHasNoAttempts = (c : MarkedProgram) (cfg : Config) → HaveNoAttempts (start c cfg)

abbrev pub EventsMakeNoAttempts : Type 0
EventsMakeNoAttempts = (c : MarkedProgram) (cfg : Config) (s : Core) (t : ℕ) → cfg.elide ≡ false
    → AreThreads c cfg s → PartsStand c.program s.threads → HaveNoAttempts s
    → HaveNoAttempts (event c s t)

abbrev pub NextMakesNoAttempts : Type 0
NextMakesNoAttempts = (c : MarkedProgram) (s : Core) → HaveNoAttempts s → HaveNoAttempts (next c s)

-- in every state that a run reaches
abbrev pub NoAttempts : Type 0
NoAttempts = (c : MarkedProgram) (cfg : Config) (hs : List Happening) → IsMarked c → HaveWidth cfg
    → PartsKeepThreads c cfg → cfg.elide ≡ false → HaveNoAttempts (core c cfg hs)
