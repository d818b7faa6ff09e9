-- Who waits is as the waiting bits and the threads say, whatever event happens and where a part of
-- the run begins.
use Rattle.std.specs.Prelude.{ℕ, List}
use Rattle.checked_program.specs.MarkedProgram.{MarkedProgram, IsMarked}
use Rattle.machine_types.specs.Core.{Core, event, next}
use Rattle.machine_types.specs.Owners.{Owners, references_of}
use Rattle.machine_types.specs.PlainMemory.{Object}
use Rattle.machine_types.specs.Structure.{Structure}
use Rattle.machine_types.specs.Waiting.{Waiting}
use Rattle.machine_types.specs.declared.config.Config.{Config}
use Rattle.machine_types.specs.declared.phase.Phase.{Phase}
use Rattle.laws_threads.specs.PartLaws.{PartsFit, counted_next}
use Rattle.laws_threads.specs.StateLaws.{counted_after}
use Rattle.laws_states.specs.HeapFacts.{HeapFacts}
use Rattle.laws_states.specs.RunFacts.{AreThreads}
use Rattle.laws_states.specs.SharedWords.{RecordsFit}

-- an event that sets or clears bits leaves them those of threads that wait
abbrev pub EventsKeepWaiting : Type 0
EventsKeepWaiting = (c : MarkedProgram) (cfg : Config) (objects : List Object) (was : ℕ → Phase)
    (s : Core) (t : ℕ) → IsMarked c → HeapFacts c objects s → AreThreads c cfg s
    → RecordsFit s.words → Structure c was s.threads → Owners (references_of objects) was s
    → Waiting was s → Waiting (counted_after c was s t) (event c s t)

-- a thread whose part begins does not wait
abbrev pub NextKeepsWaiting : Type 0
NextKeepsWaiting = (c : MarkedProgram) (was : ℕ → Phase) (s : Core) → PartsFit s.threads
    → Structure c was s.threads → Waiting was s → Waiting (counted_next c was s) (next c s)
