-- What is known of exceptions that nothing caught, of any run at any time: where its report tells
-- of one that ended a part, one ended a part of a plain state of the list.
use Rattle.std.specs.Prelude.{◌≡◌, ◌⊎◌, ℕ, Bool, true, false, List, Some, slice_get, Contains}
use Rattle.std.specs.List.{list_any}
use Rattle.checked_program.specs.MarkedProgram.{MarkedProgram, IsMarked}
use Rattle.jvm_types.specs.declared.outcome.End.{End}
use Rattle.jvm_types.specs.declared.outcome.End.TheVariants as ends
use Rattle.jvm_types.specs.declared.outcome.Outcome.{Outcome}
use Rattle.jvm_types.specs.declared.outcome.ThreadReport.{ThreadReport}
use Rattle.machine_types.specs.Core.{Happening, core, outcome}
use Rattle.machine_types.specs.PlainState.{Plain, PlainThread}
use Rattle.machine_types.specs.Settings.{AreSettings}
use Rattle.machine_types.specs.declared.config.Config.{Config}
use Rattle.laws_states.specs.RunFacts.{HaveWidth}
use Rattle.plain_orders.specs.CoveredRuns.{AreAllStates}

-- an exception that nothing caught ended the part
abbrev pub is_by_uncaught : End → Bool
is_by_uncaught (ends.Uncaught class) = true
is_by_uncaught end = false

-- it ended a part of some thread
abbrev pub has_uncaught_end : Plain → Bool
has_uncaught_end q = list_any (λ (x : PlainThread). list_any is_by_uncaught x.ended) q.threads

-- the report tells of one
abbrev pub TellsUncaught : Outcome → Type 0
TellsUncaught o =
    ((t : ℕ) × (r : ThreadReport) × (slice_get o.threads t ≡ Some r)
    × (is_by_uncaught r.end ≡ true)) ⊎ (is_by_uncaught o.done ≡ true)

-- at any time, whether the run ends or not
abbrev pub UncaughtIsCovered : Type 0
UncaughtIsCovered =
    (c : MarkedProgram) (cfg : Config) (hs : List Happening) (seen : List Plain) → IsMarked c
    → HaveWidth cfg → AreSettings cfg → AreAllStates c seen
    → TellsUncaught (outcome (core c cfg hs))
    → (q : Plain) × Contains seen q × (has_uncaught_end q ≡ true)
