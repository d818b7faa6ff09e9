use Rattle.std.proofs.Common.{◌≡◌, drop, slice_index, nat_lt}
use Rattle.std.specs.List.{list_any}
use Rattle.guard_analysis.proofs.block_reach.leads.Given as goal

abbrev pub invariant-loop-k : goal.invariant-loop-k
invariant-loop-k l = list_any (λ k. nat_lt l.depth (slice_index l.widths k)) (drop l.k-index l.ways) ≡ list_any (λ k. nat_lt l.depth (slice_index l.widths k)) l.ways
