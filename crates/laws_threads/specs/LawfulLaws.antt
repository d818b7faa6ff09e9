-- The state of a thread.
use Rattle.std.specs.Prelude.{ℕ}
use Rattle.checked_program.specs.MarkedProgram.{MarkedProgram, IsMarked}
use Rattle.machine_types.specs.Events.{moved}
use Rattle.machine_types.specs.FoundWords.{Fits}
use Rattle.machine_types.specs.Lawful.{IsLawful}
use Rattle.machine_types.specs.Threads.{Thread}

-- an event keeps it lawful, if the word that the event finds fits
abbrev pub LawfulIsKept : Type 0
LawfulIsKept =
    (c : MarkedProgram) (s : Thread) (got : ℕ) → IsMarked c → IsLawful c s → Fits c s got
    → IsLawful c (moved c s s.phase got)
