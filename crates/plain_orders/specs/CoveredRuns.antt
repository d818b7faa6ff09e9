-- Every run of the running machine, by any order of its events, in sections with their lock and
-- without, stands for a run of the plain machine that a covering list of plain states covers.
use Rattle.std.specs.Prelude.{◌≡◌, List, Contains}
use Rattle.checked_program.specs.MarkedProgram.{MarkedProgram, IsMarked}
use Rattle.machine_types.specs.Core.{Happening, core, outcome}
use Rattle.machine_types.specs.Faithful.{IsPlainRun, PrintsFit}
use Rattle.machine_types.specs.PlainState.{Plain, plain_start}
use Rattle.machine_types.specs.PlainSteps.{plain_step}
use Rattle.machine_types.specs.Settings.{AreSettings}
use Rattle.machine_types.specs.declared.config.Config.{Config}
use Rattle.laws_states.specs.RunFacts.{HaveWidth}
use Rattle.plain_orders.specs.LocalSteps.{is_local}
use Rattle.plain_orders.specs.Orders.{Covers, LeadsLocally, HasNoStep}

-- a list of plain states that covers all runs of the plain machine
abbrev pub AreAllStates : MarkedProgram → List Plain → Type 0
AreAllStates c seen =
    Covers (plain_step c.program) (is_local c.program) (plain_start c.program) (Contains seen)

-- the plain state that a run stands for leads by local steps to a state of the list, and is one of
-- the list where it rests
pub record IsCoveredBy (c : MarkedProgram) (seen : List Plain) (q : Plain) : Type 0 where
  pub later : (z : Plain) × LeadsLocally (plain_step c.program) (is_local c.program) q z
      × Contains seen z
  pub rests : HasNoStep (plain_step c.program) q → Contains seen q

abbrev pub RunsAreCovered : Type 0
RunsAreCovered =
    (c : MarkedProgram) (cfg : Config) (hs : List Happening) (seen : List Plain) → IsMarked c
    → HaveWidth cfg → AreSettings cfg → AreAllStates c seen
    → (r : IsPlainRun c cfg hs) × IsCoveredBy c seen r.state

-- what a run has printed at any time, whether it ends or not, a state of the list has printed
abbrev pub PrintsAreCovered : Type 0
PrintsAreCovered =
    (c : MarkedProgram) (cfg : Config) (hs : List Happening) (seen : List Plain) → IsMarked c
    → HaveWidth cfg → AreSettings cfg → AreAllStates c seen
    → (q : Plain) × (z : Plain) × PrintsFit (outcome (core c cfg hs)) q × Contains seen z
    × (q.prints ≡ z.prints)
