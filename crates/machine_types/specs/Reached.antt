-- The states that some list of events reaches.
use Rattle.std.specs.Prelude.{◌≡◌, List}
use Rattle.machine_types.specs.Core.{Core, Happening, core}
use Rattle.checked_program.specs.MarkedProgram.{MarkedProgram}
use Rattle.machine_types.specs.Threads.{Config}

abbrev pub IsReached : MarkedProgram → Config → Core → Type 0
IsReached c cfg s = (hs : List Happening) × (s ≡ core c cfg hs)
