-- Laws of events.
use Rattle.std.specs.Prelude.{◌≡◌, ℕ, false}
use Rattle.machine_types.specs.Core.{Core, event, lives}
use Rattle.checked_program.specs.MarkedProgram.{MarkedProgram}

-- an event of a thread that is not live, or that is not there, changes nothing
abbrev pub OnlyLiveChange : Type 0
OnlyLiveChange = (c : MarkedProgram) (s : Core) (t : ℕ) → lives s t ≡ false → event c s t ≡ s
