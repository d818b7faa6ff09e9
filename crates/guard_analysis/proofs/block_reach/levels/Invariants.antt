use Rattle.std.proofs.Common.{◌≡◌}
use Rattle.guard_analysis.specs.BlockReach.{levels_before}
use Rattle.guard_analysis.proofs.block_reach.levels.Given as goal

abbrev pub invariant-loop-i : goal.invariant-loop-i
invariant-loop-i l = l.found ≡ levels_before l.m l.tags.frames l.i
