-- The states that come next, each behind local steps.
use Rattle.std.specs.Prelude.{◌≡◌, List, Some}
use Rattle.machine_types.specs.PlainState.{Plain}
use Rattle.machine_types.specs.PlainSteps.{plain_step}
use Rattle.machine_types.specs.declared.plain.PlainStep.{PlainStep}
use Rattle.history_rule.specs.Steps.{Played}
use Rattle.plain_orders.specs.LocalSteps.{is_local}
use Rattle.plain_orders.specs.Orders.{LeadsLocally}
use Rattle.plain_search.specs.declared.row.Row.{Row}
use Rattle.plain_search.specs.Rows.{IsStateIn}

abbrev pub LeadsLocallyBy : Played → (y z : Plain) → Type 0
LeadsLocallyBy q y z =
    LeadsLocally (plain_step q.program.program) (is_local q.program.program) y z

-- a machine of the same program, behind a step and local ones
pub record IsNextBy (q : Played) (step : PlainStep) (z : Played) : Type 0 where
  pub own : z.program ≡ q.program
  pub behind : (y : Plain) × (plain_step q.program.program q.state step ≡ Some y)
      × LeadsLocallyBy q y z.state

abbrev pub IsNextRow : Played → Row → Type 0
IsNextRow q r = IsNextBy q r.step r.plain

-- where there is such a step, the state of a row comes behind it and local ones
abbrev pub HasNextBy : Played → List Row → PlainStep → Type 0
HasNextBy q rows step =
    (y : Plain) → plain_step q.program.program q.state step ≡ Some y
    → (z : Plain) × LeadsLocallyBy q y z × IsStateIn rows z

abbrev pub HasNexts : Played → List Row → Type 0
HasNexts q rows = (step : PlainStep) → HasNextBy q rows step
