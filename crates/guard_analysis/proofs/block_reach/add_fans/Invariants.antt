use Rattle.widest_paths.specs.WidestPaths.{AddsEdges, IsInFan}
use Rattle.guard_analysis.specs.BlockReach.{HasFanAt}
use Rattle.guard_analysis.proofs.block_reach.add_fans.Given as goal

abbrev pub invariant-loop-t : goal.invariant-loop-t
invariant-loop-t l = AddsEdges l.fn.g l.g (λ i k. HasFanAt l.m.code l.pcs l.t k × IsInFan l.fn.g l.fan i)
