-- The list of events that an order stands for ends where the run is over.
use Rattle.std.specs.Prelude.{ℕ, List}
use Rattle.checked_program.specs.MarkedProgram.{MarkedProgram}
use Rattle.machine_types.specs.Core.{Happening, core}
use Rattle.machine_types.specs.Faithful.{IsOver}
use Rattle.machine_types.specs.Schedules.{IsScheduleOf}
use Rattle.machine_types.specs.declared.config.Config.{Config}

abbrev pub SchedulesEndOver : Type 0
SchedulesEndOver =
    (c : MarkedProgram) (cfg : Config) (order : List ℕ) (hs : List Happening)
    → IsScheduleOf c cfg order hs → IsOver (core c cfg hs)
