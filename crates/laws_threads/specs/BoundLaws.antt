-- The numbers of a thread: counts, turns, depths, and numbers of records and of other threads.
use Rattle.std.specs.Prelude.{ℕ}
use Rattle.checked_program.specs.MarkedProgram.{MarkedProgram, IsMarked}
use Rattle.machine_types.specs.Bounds.{IsBounded}
use Rattle.machine_types.specs.Events.{moved}
use Rattle.machine_types.specs.FoundWords.{Fits}
use Rattle.machine_types.specs.Lawful.{IsTypedWithin}
use Rattle.machine_types.specs.Structure.{IsStructured}
use Rattle.machine_types.specs.Threads.{Thread}
use Rattle.machine_types.specs.declared.phase.Phase.{Phase}

-- An event keeps them within their bounds. By the types an instruction always goes on, and by the
-- structure a lock that is made fat was flat, and an attempt that fails is of a monitor that is not
-- held.
abbrev pub BoundsAreKept : Type 0
BoundsAreKept =
    (c : MarkedProgram) (was : Phase) (s : Thread) (got : ℕ) → IsMarked c → IsStructured c was s
    → IsTypedWithin c s → IsBounded c.program s → Fits c s got
    → IsBounded c.program (moved c s s.phase got)
