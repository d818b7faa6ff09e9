-- What a run comes to whose order nobody chose.
use Rattle.std.specs.Prelude.{◌≡◌, List}
use Rattle.jvm_types.specs.declared.outcome.Outcome.{Outcome}
use Rattle.checked_program.specs.MarkedProgram.{MarkedProgram}
use Rattle.machine_types.specs.Core.{Happening, core, outcome}
use Rattle.machine_types.specs.Faithful.{IsOver}
use Rattle.machine_types.specs.declared.config.Config.{Config}

-- the outcome of a state that a run reaches, and behind which nothing comes
abbrev pub IsEndOfRun : MarkedProgram → Config → Outcome → Type 0
IsEndOfRun c cfg o = (hs : List Happening) × IsOver (core c cfg hs) × (o ≡ outcome (core c cfg hs))
