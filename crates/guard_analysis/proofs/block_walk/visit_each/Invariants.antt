use Rattle.std.proofs.Common.{◌≡◌, drop}
use Rattle.guard_analysis.specs.BlockWalks.{all_visited}
use Rattle.guard_analysis.proofs.block_walk.visit_each.Given as goal

abbrev pub invariant-loop-j : goal.invariant-loop-j
invariant-loop-j l = all_visited l.m l.tags.frames l.depth l.stamp (drop l.j-index l.ways) l.walk ≡ all_visited l.m l.tags.frames l.depth l.stamp l.ways l.fn.walk
