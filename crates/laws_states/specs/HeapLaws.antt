-- What the words hold of objects and places is so at the start of a run, and stays so.
use Rattle.std.specs.Prelude.{◌≡◌, ℕ, List, Some, slice_get}
use Rattle.checked_program.specs.MarkedProgram.{MarkedProgram, IsMarked}
use Rattle.machine_types.specs.Core.{Core, start, event, next}
use Rattle.machine_types.specs.Lawful.{IsLawful}
use Rattle.machine_types.specs.PlainMemory.{Object, start_objects}
use Rattle.machine_types.specs.Structure.{Structure}
use Rattle.machine_types.specs.Threads.{Thread}
use Rattle.machine_types.specs.declared.config.Config.{Config}
use Rattle.machine_types.specs.declared.phase.Phase.{Phase}
use Rattle.laws_states.specs.HeapFacts.{HeapFacts, objects_after}

abbrev pub StartHasHeap : Type 0
StartHasHeap = (c : MarkedProgram) (cfg : Config) → IsMarked c
    → HeapFacts c (start_objects c.program) (start c cfg)

-- with an object more where a header is stored for the first time
abbrev pub EventsKeepHeap : Type 0
EventsKeepHeap = (c : MarkedProgram) (objects : List Object) (s : Core) (t : ℕ) → IsMarked c
    → HeapFacts c objects s → ((x : Thread) → slice_get s.threads t ≡ Some x → IsLawful c x)
    → HeapFacts c (objects_after c.program s t objects) (event c s t)

-- the threads of a part that begins are structured
abbrev pub NextKeepsHeap : Type 0
NextKeepsHeap = (c : MarkedProgram) (objects : List Object) (was : ℕ → Phase) (s : Core)
    → HeapFacts c objects s → Structure c was (next c s).threads → HeapFacts c objects (next c s)
