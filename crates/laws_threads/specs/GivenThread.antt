-- What a thread was given, which no event changes.
use Rattle.std.specs.Prelude.{◌≡◌, ℕ, Option}
use Rattle.jvm_types.specs.declared.outcome.End.{End}
use Rattle.checked_program.specs.MarkedProgram.{MarkedProgram}
use Rattle.machine_types.specs.Events.{moved}
use Rattle.machine_types.specs.Threads.{Thread}
use Rattle.machine_types.specs.declared.config.Config.{Config}
use Rattle.machine_types.specs.declared.phase.Phase.{Phase}

-- its program, settings and number; its part, and how `init` ended
pub record Given : Type 0 where
  pub program : MarkedProgram
  pub cfg : Config
  pub number : ℕ
  pub part : ℕ
  pub first : Option End

abbrev pub given_of : Thread → Given
given_of s =
    record { program = s.program; cfg = s.cfg; number = s.number; part = s.part; first = s.first }

abbrev pub GivenIsKept : Type 0
GivenIsKept =
    (c : MarkedProgram) (s : Thread) (phase : Phase) (got : ℕ)
    → given_of (moved c s phase got) ≡ given_of s
