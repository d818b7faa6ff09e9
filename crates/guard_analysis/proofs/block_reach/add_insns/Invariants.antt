use Rattle.std.proofs.Common.{◌<◌, slice_index}
use Rattle.widest_paths.specs.WidestPaths.{AddsEdges}
use Rattle.guard_analysis.specs.BlockReach.{level_at, IsOnward}
use Rattle.guard_analysis.proofs.block_reach.add_insns.Given as goal

abbrev pub invariant-loop-i : goal.invariant-loop-i
invariant-loop-i l = AddsEdges l.fn.g l.g (λ x k. (x < l.i) × (0 < level_at l.m l.tags.frames x) × (0 < slice_index l.fn.g.turns x) × IsOnward l.m x k)
