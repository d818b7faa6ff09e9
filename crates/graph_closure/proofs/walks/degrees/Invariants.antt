use Rattle.std.proofs.Common.{◌≡◌, ℕ, ◌<◌, true, length, slice_index}
use Rattle.graph_closure.specs.LeastSet.{chosen}
use Rattle.graph_closure.proofs.walks.degrees.Given as goal

abbrev pub invariant-loop-e : goal.invariant-loop-e
invariant-loop-e l = record {
  long : length l.counts.items ≡ l.nodes;
  each : (a : ℕ) → a < l.nodes → slice_index l.counts.items a ≡ chosen l.from (λ e. true) a l.e;
}
