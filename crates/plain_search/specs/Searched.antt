-- What a search over the states of the plain machine has found.
use Rattle.std.specs.Prelude.{◌≡◌, ◌<◌, ℕ, Bool, true, List, Some, slice_get}
use Rattle.std.specs.Prelude.{Contains}
use Rattle.std.specs.List.{AllByRecursion}
use Rattle.checked_program.specs.MarkedProgram.{MarkedProgram}
use Rattle.machine_types.specs.PlainState.{Plain, plain_start}
use Rattle.machine_types.specs.PlainSteps.{plain_step}
use Rattle.plain_orders.specs.CoveredRuns.{AreAllStates}
use Rattle.plain_orders.specs.Orders.{HasNoStep}
use Rattle.plain_search.specs.declared.row.Row.{Row}
use Rattle.plain_search.specs.declared.row.Gathered.{Gathered}
use Rattle.plain_search.specs.Nexts.{HasNexts}
use Rattle.plain_search.specs.Rows.{IsSearchRow, IsPlainReached, IsStateIn}

-- the states, the numbers of those at rest, and whether the search was ended by nothing else than
-- that there are no more
pub record Searched : Type 0 where
  pub program : MarkedProgram
  pub states : List Plain
  pub rests : List ℕ
  pub is_whole : Bool

-- the number is that of a state at rest
abbrev pub HasNoStepAt : MarkedProgram → List Plain → ℕ → Type 0
HasNoStepAt c states k =
    (q : Plain) × (slice_get states k ≡ Some q) × HasNoStep (plain_step c.program) q

-- Plain runs lead to all states that were found, and those said to be at rest are. Where the search
-- is whole, they cover all runs, and each that is at rest is said to be.
pub record IsSearched (s : Searched) : Type 0 where
  pub reached : (q : Plain) → Contains s.states q → IsPlainReached s.program q
  pub rest : (k : ℕ) → Contains s.rests k → HasNoStepAt s.program s.states k
  pub all : s.is_whole ≡ true → AreAllStates s.program s.states
  pub all_rest : s.is_whole ≡ true → (k : ℕ) → HasNoStepAt s.program s.states k → Contains s.rests k

-- ---- while it goes on

-- what holds of the rows at any time
pub record IsSoundSearch (c : MarkedProgram) (s : Gathered) : Type 0 where
  pub rows : AllByRecursion (IsSearchRow c) s.rows.items
  pub rest : (k : ℕ) → Contains s.rests.items k → (r : Row) × (slice_get s.rows.items k ≡ Some r)
      × HasNoStep (plain_step c.program) r.plain.state

-- and once the first n rows were taken up
pub record AreTaken (c : MarkedProgram) (s : Gathered) (n : ℕ) : Type 0 where
  pub first : IsStateIn s.rows.items (plain_start c.program)
  pub nexts : (k : ℕ) (r : Row) → k < n → slice_get s.rows.items k ≡ Some r
      → HasNexts r.plain s.rows.items
  pub rests : (k : ℕ) (r : Row) → k < n → slice_get s.rows.items k ≡ Some r
      → HasNoStep (plain_step c.program) r.plain.state → Contains s.rests.items k
