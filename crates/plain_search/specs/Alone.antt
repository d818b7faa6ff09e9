-- Local steps, as the search makes them.
use Rattle.std.specs.Prelude.{◌≡◌, ◌≤◌, ◌+◌, ℕ, Bool, option_and_then}
use Rattle.jvm_types.specs.declared.program.Program.{Program}
use Rattle.machine_types.specs.Frames.{Top}
use Rattle.machine_types.specs.PlainSteps.{plain_step}
use Rattle.machine_types.specs.declared.effect.Effect.{Effect}
use Rattle.history_rule.specs.Steps.{Played}
use Rattle.plain_orders.specs.LocalSteps.{is_local, is_there, own_onward, stays_live}
use Rattle.plain_orders.specs.Orders.{LeadsLocally}

-- the effect touches its thread alone
abbrev pub is_alone_by : Program → Top → Effect → Bool
is_alone_by p at e = is_there (option_and_then stays_live (own_onward p at e))

-- local steps were made, so many at most
pub record IsSettled (most : ℕ) (old new : Played) : Type 0 where
  pub leads : LeadsLocally (plain_step old.program.program) (is_local old.program.program) old.state
      new.state
  pub same : new.program ≡ old.program
  pub few : new.steps ≤ old.steps + most
