-- The methods that a thread has still to run.
use Rattle.std.specs.Prelude.{ℕ}
use Rattle.checked_program.specs.MarkedProgram.{MarkedProgram}
use Rattle.machine_types.specs.Bounds.{IsRooted}
use Rattle.machine_types.specs.Events.{moved}
use Rattle.machine_types.specs.Threads.{Thread}

-- an event leaves a thread roots of its part, and a frame wherever one is needed
abbrev pub RootsAreKept : Type 0
RootsAreKept =
    (c : MarkedProgram) (s : Thread) (got : ℕ) → IsRooted c.program s
    → IsRooted c.program (moved c s s.phase got)
