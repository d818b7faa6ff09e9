-- The rows of a search: machines, each with the step by which it was come to.
use Rattle.std.specs.Prelude.{◌≡◌, ◌++◌, List, ℕ, Some, slice_get}
use Rattle.std.specs.List.{AllByRecursion}
use Rattle.checked_program.specs.MarkedProgram.{MarkedProgram}
use Rattle.machine_types.specs.PlainState.{Plain, plain_start}
use Rattle.machine_types.specs.PlainSteps.{plain_run}
use Rattle.machine_types.specs.declared.plain.PlainStep.{PlainStep}
use Rattle.plain_search.specs.declared.row.Row.{Row}

-- a plain run leads there from the start
abbrev pub IsPlainReached : MarkedProgram → Plain → Type 0
IsPlainReached c q =
    (steps : List PlainStep) × (plain_run c.program (plain_start c.program) steps ≡ Some q)

-- a machine of this program, in a state that a plain run leads to
pub record IsSearchRow (c : MarkedProgram) (r : Row) : Type 0 where
  pub own : r.plain.program ≡ c
  pub reached : IsPlainReached c r.plain.state

-- the state of some row
abbrev pub IsStateIn : List Row → Plain → Type 0
IsStateIn rows q = (k : ℕ) × (r : Row) × (slice_get rows k ≡ Some r) × (r.plain.state ≡ q)

-- with more rows behind, of each of which this is so
abbrev pub IsLonger : (Row → Type 0) → (old new : List Row) → Type 0
IsLonger P old new = (more : List Row) × (new ≡ old ++ more) × AllByRecursion P more

abbrev pub AreStatesIn : (rows more : List Row) → Type 0
AreStatesIn rows more = (k : ℕ) (r : Row) → slice_get more k ≡ Some r → IsStateIn rows r.plain.state
