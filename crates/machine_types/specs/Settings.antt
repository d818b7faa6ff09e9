-- The settings that a run may have.
use Rattle.std.specs.Prelude.{◌<◌, ◌≤◌}
use Rattle.jvm_types.specs.declared.limits.TheConstants.{MOST_PRINTS}
use Rattle.machine_types.specs.Threads.{Config}

-- each limit is at least 1, and so is the last count of a lock word
pub record AreSettings (cfg : Config) : Type 0 where
  pub steps : 0 < cfg.steps
  pub turns : 0 < cfg.turns
  pub prints : 0 < cfg.prints
  pub few_prints : cfg.prints ≤ MOST_PRINTS
  pub range : 0 < cfg.range
