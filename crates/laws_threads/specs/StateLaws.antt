-- The locking of all threads stays structured (JVMS 2.11.10), whatever event happens and where a
-- part of the run begins.
use Rattle.std.specs.Prelude.{◌≡◌, ◌==◌, ℕ, List, Option, Some, None, slice_get, if◌then◌else◌}
use Rattle.checked_program.specs.MarkedProgram.{MarkedProgram, IsMarked}
use Rattle.machine_types.specs.Bounds.{IsRooted}
use Rattle.machine_types.specs.Core.{Core, event}
use Rattle.machine_types.specs.PlainMemory.{Object}
use Rattle.machine_types.specs.Structure.{Structure}
use Rattle.machine_types.specs.Threads.{Thread}
use Rattle.machine_types.specs.Typed.{HasClass, ThreadHolds}
use Rattle.machine_types.specs.declared.phase.Phase.{Phase}
use Rattle.laws_threads.specs.StructureLaws.{counted_by}

-- ---- an event

abbrev pub counted_of : (was : Phase) → Option Thread → Phase
counted_of was None = was
counted_of was (Some x) = counted_by was x.phase

-- the phases that count where thread t has moved
abbrev pub counted_phase_at : (was : ℕ → Phase) → (t : ℕ) → List Thread → (u : ℕ) → Phase
counted_phase_at was t threads u =
    if u == t then counted_of (was t) (slice_get threads t) else was u

abbrev pub counted_after : MarkedProgram → (was : ℕ → Phase) → Core → (t : ℕ) → (u : ℕ) → Phase
counted_after c was s t = counted_phase_at was t (event c s t).threads

abbrev pub EventsKeepStructure : Type 0
EventsKeepStructure =
    (c : MarkedProgram) (objects : List Object) (was : ℕ → Phase) (s : Core) (t : ℕ) → IsMarked c
    → Structure c was s.threads
    → ((x : Thread) → slice_get s.threads t ≡ Some x
    → ThreadHolds c (HasClass objects) x × IsRooted c.program x)
    → Structure c (counted_after c was s t) (event c s t).threads
