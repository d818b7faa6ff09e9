use Rattle.std.proofs.Common.{◌≡◌, ℕ, false}
use Rattle.machine_types.specs.Core.{lives}
use Rattle.replay_runner.specs.Running.{parts_left}
use Rattle.replay_runner.proofs.ending.finish.Given as goal

abbrev pub invariant-loop-locked : goal.invariant-loop-locked
invariant-loop-locked g l = (t : ℕ) → lives l.locked.core t ≡ false

abbrev pub decreases-loop-locked : goal.decreases-loop-locked
decreases-loop-locked g l = parts_left l.locked.core.threads
