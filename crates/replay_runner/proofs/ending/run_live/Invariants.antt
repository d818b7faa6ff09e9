use Rattle.std.proofs.Common.{◌≡◌}
use Rattle.laws_states.specs.WorkLeft.{all_work}
use Rattle.replay_runner.specs.Running.{parts_left}
use Rattle.replay_runner.proofs.ending.run_live.Given as goal

abbrev pub invariant-loop-t : goal.invariant-loop-t
invariant-loop-t g l = parts_left l.locked.core.threads ≡ parts_left l.fn.locked.core.threads

abbrev pub decreases-loop-t : goal.decreases-loop-t
decreases-loop-t g l = all_work l.locked.core
