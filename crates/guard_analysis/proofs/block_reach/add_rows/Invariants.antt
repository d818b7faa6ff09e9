use Rattle.widest_paths.specs.WidestPaths.{AddsEdges}
use Rattle.guard_analysis.specs.BlockReach.{IsThrownBefore}
use Rattle.guard_analysis.proofs.block_reach.add_rows.Given as goal

abbrev pub invariant-loop-r : goal.invariant-loop-r
invariant-loop-r l = AddsEdges l.fn.g l.g (λ i k. IsThrownBefore l.m l.fn.g l.r i k)
