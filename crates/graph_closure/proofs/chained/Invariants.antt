use Rattle.std.proofs.Common.{◌≡◌, ℕ, ◌<◌, length, slice_index}
use Rattle.graph_closure.specs.Chains.{latest}
use Rattle.graph_closure.proofs.chained.Given as goal

abbrev pub invariant-loop-e : goal.invariant-loop-e
invariant-loop-e l = record {
  lasts : length l.last.items ≡ l.nodes;
  befores : length l.before.items ≡ l.e;
  last : (b : ℕ) → b < l.nodes → slice_index l.last.items b ≡ latest l.to b l.e;
  before : (x : ℕ) → x < l.e → slice_index l.before.items x ≡ latest l.to (slice_index l.to x) x;
}
