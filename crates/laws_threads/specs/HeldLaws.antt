-- How many monitors a thread holds: there is a place for each.
use Rattle.std.specs.Prelude.{◌<◌, ◌≤◌, length}
use Rattle.checked_program.specs.MarkedProgram.{MarkedProgram}
use Rattle.jvm_types.specs.declared.limits.TheConstants.{MOST_FRAMES}
use Rattle.machine_types.specs.HeldMonitors.{places_of}
use Rattle.machine_types.specs.Structure.{IsStructured}
use Rattle.machine_types.specs.Threads.{Thread}
use Rattle.machine_types.specs.declared.phase.Phase.{Phase}
use Rattle.machine_types.specs.declared.phase.Phase.TheVariants as phases

-- a monitor is to be entered that the thread does not hold
abbrev pub AddsHeld : Phase → Type 0
AddsHeld (phases.Take m count) = Unit {0}
AddsHeld (phases.TakeFat m r) = Unit {0}
AddsHeld (phases.Retake m r depth) = Unit {0}
AddsHeld phase = ⊥

abbrev pub HeldHasRoom : Type 0
HeldHasRoom =
    (c : MarkedProgram) (was : Phase) (s : Thread) → IsStructured c was s
    → length s.frames ≤ MOST_FRAMES → AddsHeld s.phase → length s.held < places_of c
