use Rattle.std.proofs.Common.{◌≡◌}
use Rattle.guard_analysis.specs.BlockReach.{turns_before}
use Rattle.guard_analysis.proofs.block_reach.turns.Given as goal

abbrev pub invariant-loop-i : goal.invariant-loop-i
invariant-loop-i l = l.found ≡ turns_before l.m l.tags.frames l.i
