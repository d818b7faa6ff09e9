-- Whatever an event makes of a thread, its values keep their types.
use Rattle.std.specs.Prelude.{ℕ}
use Rattle.checked_program.specs.MarkedProgram.{MarkedProgram, IsMarked}
use Rattle.machine_types.specs.Bounds.{IsBounded, IsRooted}
use Rattle.machine_types.specs.Events.{moved}
use Rattle.machine_types.specs.FoundWords.{Fits}
use Rattle.machine_types.specs.Lawful.{IsTypedWithin}
use Rattle.machine_types.specs.Structure.{IsStructured}
use Rattle.machine_types.specs.Threads.{Thread}
use Rattle.machine_types.specs.declared.phase.Phase.{Phase}

-- where its locking stays structured
abbrev pub TypesAreKept : Type 0
TypesAreKept =
    (c : MarkedProgram) (was next : Phase) (s : Thread) (got : ℕ) → IsMarked c
    → IsStructured c was s → IsTypedWithin c s → IsBounded c.program s → IsRooted c.program s
    → Fits c s got → IsStructured c next (moved c s s.phase got)
    → IsTypedWithin c (moved c s s.phase got)
