-- What whole lists of outcomes say of every run of the running machine, by any order of its events,
-- by any settings, in sections with their lock and without.
use Rattle.std.specs.Prelude.{◌≡◌, ℕ, ℤ, true, List, Some, slice_get, is_some}
use Rattle.checked_program.specs.MarkedProgram.{MarkedProgram, IsMarked}
use Rattle.machine_types.specs.Core.{Happening, core, outcome}
use Rattle.machine_types.specs.Faithful.{IsOver, IsPlainRun, PrintsFit}
use Rattle.machine_types.specs.PlainState.{Plain}
use Rattle.machine_types.specs.PlainSteps.{plain_step}
use Rattle.machine_types.specs.Settings.{AreSettings}
use Rattle.machine_types.specs.declared.config.Config.{Config}
use Rattle.laws_states.specs.RunFacts.{HaveWidth}
use Rattle.plain_orders.specs.EndedRuns.{HasNoLimit}
use Rattle.plain_orders.specs.Orders.{HasNoStep}
use Rattle.plain_orders.specs.UncaughtRuns.{TellsUncaught}
use Rattle.outcomes.specs.Comes.{ComesTo}
use Rattle.outcomes.specs.Lists.{AreAllOutcomes, HasPrinted, IsListedIn, IsPrintedIn}
use Rattle.outcomes.specs.declared.listing.Listed.{Listed}
use Rattle.outcomes.specs.declared.all_outcomes.Outcomes.{Outcomes}

-- a run that is over, and of which no limit ended a part, comes to what one of the list shows
abbrev pub EndsAreListed : Type 0
EndsAreListed =
    (c : MarkedProgram) (cfg : Config) (hs : List Happening) (o : Outcomes) → IsMarked c
    → HaveWidth cfg → AreSettings cfg → AreAllOutcomes c o → IsOver (core c cfg hs)
    → HasNoLimit (outcome (core c cfg hs))
    → (i : ℕ) × (x : Listed) × (slice_get o.listed i ≡ Some x)
    × ComesTo c.program x.at.plain.state (outcome (core c cfg hs))

-- A run that stands, at any time, where the plain machine has no step left shows what one of the
-- list does: so where no thread of the list waits for ever, never do all that have not ended wait.
abbrev pub RestsAreListed : Type 0
RestsAreListed =
    (c : MarkedProgram) (cfg : Config) (hs : List Happening) (o : Outcomes) → IsMarked c
    → HaveWidth cfg → AreSettings cfg → AreAllOutcomes c o
    → (r : IsPlainRun c cfg hs)
    × (HasNoStep (plain_step c.program) r.state → IsListedIn c.program o.listed r.state)

-- what a run has printed at any time, over or not, is what a plain state has, and each number of it
-- is listed
abbrev pub PrintsAreListed : Type 0
PrintsAreListed =
    (c : MarkedProgram) (cfg : Config) (hs : List Happening) (o : Outcomes) → IsMarked c
    → HaveWidth cfg → AreSettings cfg → AreAllOutcomes c o
    → (q : Plain) × PrintsFit (outcome (core c cfg hs)) q
    × ((value : ℤ) → HasPrinted q value → IsPrintedIn o.printed value)

-- where the report of a run tells of an exception that nothing caught, at any time, over or not, a
-- state is listed where one ended a part
abbrev pub UncaughtIsListed : Type 0
UncaughtIsListed =
    (c : MarkedProgram) (cfg : Config) (hs : List Happening) (o : Outcomes) → IsMarked c
    → HaveWidth cfg → AreSettings cfg → AreAllOutcomes c o
    → TellsUncaught (outcome (core c cfg hs)) → is_some o.uncaught ≡ true
