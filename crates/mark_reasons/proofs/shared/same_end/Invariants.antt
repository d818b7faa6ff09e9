use Rattle.std.proofs.Common.{◌≡◌, ◌+◌, ◌≤◌, length}
use Rattle.mark_reasons.specs.SharedWays.{same_end, same_run}
use Rattle.mark_reasons.proofs.shared.same_end.Given as goal

abbrev pub invariant-loop-left : goal.invariant-loop-left
invariant-loop-left l = record {
  same : same_run l.run l.front l.left ≡ same_end l.told l.way;
  few : l.run + length l.left ≤ length l.way;
}

abbrev pub decreases-loop-left : goal.decreases-loop-left
decreases-loop-left l = length l.left
