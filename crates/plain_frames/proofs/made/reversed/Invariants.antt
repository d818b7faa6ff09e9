use Rattle.std.proofs.Common.{◌≡◌, ◌++◌, reverse, length}
use Rattle.plain_frames.proofs.made.reversed.Given as goal

abbrev pub invariant-loop-value : goal.invariant-loop-value
invariant-loop-value l = l.rows ++ reverse l.left ≡ reverse l.values

abbrev pub decreases-loop-value : goal.decreases-loop-value
decreases-loop-value l = length l.left
