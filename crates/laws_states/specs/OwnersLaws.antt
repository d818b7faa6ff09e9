-- Who holds which lock is as the words and the threads say, whatever event happens and where a part
-- of the run begins.
use Rattle.std.specs.Prelude.{ℕ, List}
use Rattle.checked_program.specs.MarkedProgram.{MarkedProgram, IsMarked}
use Rattle.machine_types.specs.Core.{Core, event, next}
use Rattle.machine_types.specs.Owners.{Owners, references_of}
use Rattle.machine_types.specs.PlainMemory.{Object}
use Rattle.machine_types.specs.Structure.{Structure}
use Rattle.machine_types.specs.declared.config.Config.{Config}
use Rattle.machine_types.specs.declared.phase.Phase.{Phase}
use Rattle.laws_threads.specs.PartLaws.{counted_next}
use Rattle.laws_threads.specs.StateLaws.{counted_after}
use Rattle.laws_states.specs.HeapFacts.{HeapFacts, objects_after}
use Rattle.laws_states.specs.RunFacts.{AreThreads}

-- the lock of an object whose header is stored is free
abbrev pub EventsKeepOwners : Type 0
EventsKeepOwners = (c : MarkedProgram) (cfg : Config) (objects : List Object) (was : ℕ → Phase)
    (s : Core) (t : ℕ) → IsMarked c → HeapFacts c objects s → AreThreads c cfg s
    → Structure c was s.threads → Owners (references_of objects) was s
    → Owners (references_of (objects_after c.program s t objects)) (counted_after c was s t)
    (event c s t)

abbrev pub NextKeepsOwners : Type 0
NextKeepsOwners = (c : MarkedProgram) (references : List ℕ) (was : ℕ → Phase) (s : Core)
    → Structure c was s.threads → Owners references was s
    → Owners references (counted_next c was s) (next c s)
