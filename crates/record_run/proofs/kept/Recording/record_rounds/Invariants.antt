use Rattle.std.proofs.Common.{◌≤◌}
use Rattle.laws_states.specs.WorkLeft.{all_work}
use Rattle.record_run.proofs.kept.Recording.record_rounds.Given as goal

abbrev pub invariant-loop-t : goal.invariant-loop-t
invariant-loop-t g l = 1 ≤ l.from

abbrev pub decreases-loop-t : goal.decreases-loop-t
decreases-loop-t g l = all_work l.self.machine.core
