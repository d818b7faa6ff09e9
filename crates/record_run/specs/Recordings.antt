-- A recorded run: an order of the workers' events, and what it leads the run to.
use Rattle.std.specs.Prelude.{◌≡◌, ◌≤◌, ◌<◌, ℕ, true, false, List, [], ◌∷◌, length, map}
use Rattle.jvm_types.specs.declared.outcome.Outcome.{Outcome}
use Rattle.checked_program.specs.MarkedProgram.{MarkedProgram}
use Rattle.machine_types.specs.Core.{Core, Of, all_happened, event, lives, next, start}
use Rattle.machine_types.specs.Schedules.{is_live_worker}
use Rattle.machine_types.specs.declared.config.Config.{Config}
use Rattle.replay_runner.specs.Replays.{IsReplayed}
use Rattle.replay_runner.specs.Running.{events}

-- the state in which the workers come next: thread 0 alone has had its events until it was not
-- live, and where `init` returned, the workers' part has begun
pub record IsBeginOfWorkers (c : MarkedProgram) (cfg : Config) (s : Core) : Type 0 where
  pub count : ℕ
  pub init_over : lives (events c (start c cfg) 0 count) 0 ≡ false
  pub begun : s ≡ next c (events c (start c cfg) 0 count)

-- the state behind an event of each thread of an order, in turn
abbrev pub after_order : MarkedProgram → Core → (order : List ℕ) → Core
after_order c s order = all_happened c s (map Of order)

-- each of them is a worker, and live as its turn comes
abbrev pub AreLiveWorkers : MarkedProgram → Core → (order : List ℕ) → Type 0
AreLiveWorkers c s [] = Unit {0}
AreLiveWorkers c s (t ∷ order) = (is_live_worker s t ≡ true) × AreLiveWorkers c (event c s t) order

-- Of the workers' events an order has the first, at most so many, and all where it is shorter; what
-- the run comes to is what a replay by this order comes to.
pub record IsRecorded (c : MarkedProgram) (cfg : Config) (most : ℕ) (order : List ℕ) (o : Outcome)
    : Type 0 where
  pub replayed : IsReplayed c cfg order o
  pub few : length order ≤ most
  pub at : Core
  pub begin : IsBeginOfWorkers c cfg at
  pub live : AreLiveWorkers c at order
  pub whole : length order < most → (t : ℕ) → is_live_worker (after_order c at order) t ≡ false

-- whatever a replay by a recorded order comes to is what was recorded
abbrev pub RecordedOrdersReplay : Type 0
RecordedOrdersReplay =
    (c : MarkedProgram) (cfg : Config) (most : ℕ) (order : List ℕ) (o other : Outcome)
    → IsRecorded c cfg most order o → IsReplayed c cfg order other → other ≡ o
