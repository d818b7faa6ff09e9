-- What a run comes to that is over and of which no limit ended a part: its prints and ends are
-- those of a plain state of the list.
use Rattle.std.specs.Prelude.{◌≡◌, true, List, Some, slice_get, Contains}
use Rattle.checked_program.specs.MarkedProgram.{MarkedProgram, IsMarked}
use Rattle.jvm_types.specs.declared.outcome.Outcome.{Outcome}
use Rattle.jvm_types.specs.declared.outcome.ThreadReport.{ThreadReport}
use Rattle.machine_types.specs.Core.{Happening, core, outcome}
use Rattle.machine_types.specs.Faithful.{IsOver, PrintsFit, EndsFit}
use Rattle.machine_types.specs.Parts.{has_returned, has_finished}
use Rattle.machine_types.specs.PlainState.{Plain}
use Rattle.machine_types.specs.PlainSteps.{plain_step}
use Rattle.machine_types.specs.Settings.{AreSettings}
use Rattle.machine_types.specs.declared.config.Config.{Config}
use Rattle.laws_states.specs.RunFacts.{HaveWidth}
use Rattle.plain_orders.specs.CoveredRuns.{AreAllStates}
use Rattle.plain_orders.specs.Orders.{HasNoStep}

-- No limit ended a part, by the report: `init` returned or was ended by an exception; where it
-- returned, so it is with `done`, which begins only where it is so with each worker.
pub record HasNoLimit (o : Outcome) : Type 0 where
  pub first : (r : ThreadReport) → slice_get o.threads 0 ≡ Some r → has_finished r.end ≡ true
  pub done : (r : ThreadReport) → slice_get o.threads 0 ≡ Some r → has_returned r.end ≡ true
      → has_finished o.done ≡ true

abbrev pub EndsAreCovered : Type 0
EndsAreCovered =
    (c : MarkedProgram) (cfg : Config) (hs : List Happening) (seen : List Plain) → IsMarked c
    → HaveWidth cfg → AreSettings cfg → AreAllStates c seen → IsOver (core c cfg hs)
    → HasNoLimit (outcome (core c cfg hs))
    → (q : Plain) × Contains seen q × HasNoStep (plain_step c.program) q
    × PrintsFit (outcome (core c cfg hs)) q × EndsFit c.program (outcome (core c cfg hs)) q
