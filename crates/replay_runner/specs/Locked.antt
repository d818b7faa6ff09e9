-- What is known of the machine whenever the lock is free: of which run it is, and that this run
-- reaches its state.
use Rattle.std.specs.Prelude.{◌≡◌, ℕ, true, false, List, Option, None, Some, slice_get}
use Rattle.jvm_types.specs.declared.outcome.Outcome.{Outcome}
use Rattle.checked_program.specs.MarkedProgram.{MarkedProgram}
use Rattle.machine_types.specs.Core.{Happening, core, event, lives}
use Rattle.machine_types.specs.declared.config.Config.{Config}
use Rattle.run_parts.specs.Ended.{IsEndOfRun}
use Rattle.replay_runner.specs.Running.{Running, turns_of}

-- which run it is
pub record Named : Type 0 where
  pub program : MarkedProgram
  pub cfg : Config

-- the run is one of this program
abbrev pub IsOfProgram : Option Named → MarkedProgram → Type 0
IsOfProgram run c = (cfg : Config) × (run ≡ Some (record { program = c; cfg = cfg }))

-- some list of happenings leads from the start to its state
abbrev pub IsMachineReached : Running → Type 0
IsMachineReached m = (hs : List Happening) × (m.core ≡ core m.program m.cfg hs)

-- the machine of the run, in a state that the run reaches
pub record IsMachineOf (run : Option Named) (m : Running) : Type 0 where
  pub named : run ≡ Some (record { program = m.program; cfg = m.cfg })
  pub reached : IsMachineReached m

-- what the run comes to
abbrev pub IsEndOf : (run : Option Named) → Outcome → Type 0
IsEndOf None o = ⊥
IsEndOf (Some n) o = IsEndOfRun n.program n.cfg o

-- an event of a live thread, and how many turns that has failed then; of another none, and nothing
-- changes
abbrev pub IsEventUnderLock : (t : ℕ) → (was now : Running) → Option ℕ → Type 0
IsEventUnderLock t was now None = (lives was.core t ≡ false) × (now ≡ was)
IsEventUnderLock t was now (Some turns) =
    (lives was.core t ≡ true) × (now ≡ record was { core = event was.program was.core t })
    × (turns ≡ turns_of (slice_get now.core.threads t))
