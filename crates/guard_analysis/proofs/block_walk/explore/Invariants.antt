use Rattle.guard_analysis.specs.BlockWalks.{Walked, walk_left}
use Rattle.guard_analysis.proofs.block_walk.explore.Given as goal

abbrev pub invariant-loop-k : goal.invariant-loop-k
invariant-loop-k l = Walked l.m l.tags.frames l.depth l.stamp l.enter l.k l.walk

abbrev pub decreases-loop-k : goal.decreases-loop-k
decreases-loop-k l = walk_left l.stamp l.walk l.k
