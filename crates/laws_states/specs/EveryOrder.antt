-- Every order stands for a list of events: none leads a run on and on.
use Rattle.std.specs.Prelude.{ℕ, List}
use Rattle.checked_program.specs.MarkedProgram.{MarkedProgram, IsMarked}
use Rattle.machine_types.specs.Core.{Happening}
use Rattle.machine_types.specs.Schedules.{IsScheduleOf}
use Rattle.machine_types.specs.Settings.{AreSettings}
use Rattle.machine_types.specs.declared.config.Config.{Config}
use Rattle.laws_states.specs.RunFacts.{HaveWidth}

abbrev pub EveryOrderHasRun : Type 0
EveryOrderHasRun = (c : MarkedProgram) (cfg : Config) (order : List ℕ) → IsMarked c → HaveWidth cfg
    → AreSettings cfg → (hs : List Happening) × IsScheduleOf c cfg order hs
