-- What the states of the plain machine come to: outcomes, and the numbers that are printed.
use Rattle.std.specs.Prelude.{◌≡◌, ℕ, ℤ, List, Contains, Some, slice_get, IfSome, length, true}
use Rattle.std.specs.Prelude.{is_some}
use Rattle.std.specs.List.{AllByRecursion}
use Rattle.jvm_types.specs.declared.program.Program.{Program}
use Rattle.checked_program.specs.MarkedProgram.{MarkedProgram}
use Rattle.machine_types.specs.PlainState.{Plain, Printed, plain_start}
use Rattle.machine_types.specs.PlainSteps.{first_end, plain_done_end, plain_run, plain_step}
use Rattle.machine_types.specs.declared.config.Config.{Config}
use Rattle.plain_orders.specs.CoveredRuns.{AreAllStates}
use Rattle.plain_orders.specs.Orders.{HasNoStep}
use Rattle.plain_orders.specs.UncaughtRuns.{has_uncaught_end}
use Rattle.plain_search.specs.Rows.{IsPlainReached}
use Rattle.outcomes.specs.Comes.{LeadsTo}
use Rattle.outcomes.specs.Stops.{stopped_threads}
use Rattle.outcomes.specs.declared.listing.Listed.{Listed}
use Rattle.outcomes.specs.declared.printing.Printing.{Printing}
use Rattle.outcomes.specs.declared.reached.Reached.{Reached}
use Rattle.outcomes.specs.declared.all_outcomes.Outcomes.{Outcomes}

-- two states show the same: the same numbers, printed in the same order by the same threads; parts
-- that ended in the same way; and threads that stopped at the same places for the same reasons
pub record ShowTheSame (p : Program) (q z : Plain) : Type 0 where
  pub prints : q.prints ≡ z.prints
  pub ends : (t : ℕ) → first_end q t ≡ first_end z t
  pub done : plain_done_end p q ≡ plain_done_end p z
  pub stopped : stopped_threads q ≡ stopped_threads z

-- a number is among those that were printed
abbrev pub HasPrinted : Plain → (value : ℤ) → Type 0
HasPrinted q value =
    (i : ℕ) × (x : Printed) × (slice_get q.prints i ≡ Some x) × (x.value ≡ value)

-- ---- what is listed

-- a plain run leads to the state, by the steps that are told, if any
pub record IsReachedBySteps (c : MarkedProgram) (r : Reached) : Type 0 where
  pub reached : IsPlainReached c r.plain.state
  pub steps : IfSome r.steps
      (λ s. plain_run c.program (plain_start c.program) s ≡ Some r.plain.state)

-- no step is left in the state, and the order that is told, if any, leads a run by these settings
-- to what it shows
pub record IsListedOutcome (c : MarkedProgram) (cfg : Config) (x : Listed) : Type 0 where
  pub reached : IsReachedBySteps c x.at
  pub rest : HasNoStep (plain_step c.program) x.at.plain.state
  pub order : IfSome x.ordered (λ r. LeadsTo c cfg x.at.plain.state r.order r.outcome)

-- the number has been printed in the state
pub record IsPrinting (c : MarkedProgram) (x : Printing) : Type 0 where
  pub reached : IsReachedBySteps c x.at
  pub printed : HasPrinted x.at.plain.state x.value

-- an exception that nothing caught has ended a part in the state
pub record IsUncaught (c : MarkedProgram) (r : Reached) : Type 0 where
  pub reached : IsReachedBySteps c r
  pub ended : has_uncaught_end r.plain.state ≡ true

-- ---- what is in the lists

abbrev pub IsListedIn : Program → List Listed → Plain → Type 0
IsListedIn p listed q =
    (i : ℕ) × (x : Listed) × (slice_get listed i ≡ Some x)
    × ShowTheSame p q x.at.plain.state

abbrev pub IsPrintedIn : List Printing → (value : ℤ) → Type 0
IsPrintedIn printed value =
    (i : ℕ) × (x : Printing) × (slice_get printed i ≡ Some x) × (x.value ≡ value)

-- so many states cover all runs; each of them that has no step shows what one of the list does;
-- each number that was printed in one of them is listed; and where an exception that nothing caught
-- ended a part in one of them, such a state is listed
pub record AreAllOutcomes (c : MarkedProgram) (o : Outcomes) : Type 0 where
  pub seen : List Plain
  pub states : AreAllStates c seen
  pub many : length seen ≡ o.states
  pub rests : (q : Plain) → Contains seen q → HasNoStep (plain_step c.program) q
      → IsListedIn c.program o.listed q
  pub prints : (q : Plain) (value : ℤ) → Contains seen q → HasPrinted q value
      → IsPrintedIn o.printed value
  pub uncaught : (q : Plain) → Contains seen q → has_uncaught_end q ≡ true
      → is_some o.uncaught ≡ true

pub record AreOutcomes (c : MarkedProgram) (cfg : Config) (o : Outcomes) : Type 0 where
  pub listed : AllByRecursion (IsListedOutcome c cfg) o.listed
  pub printed : AllByRecursion (IsPrinting c) o.printed
  pub uncaught : IfSome o.uncaught (IsUncaught c)
  pub all : o.is_whole ≡ true → AreAllOutcomes c o
