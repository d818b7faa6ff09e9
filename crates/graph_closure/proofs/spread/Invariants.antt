use Rattle.std.proofs.Common.{◌≡◌, ℕ, length}
use Rattle.graph_closure.specs.Chains.{Going, weight}
use Rattle.graph_closure.proofs.spread.Given as goal

abbrev pub invariant-loop-b : goal.invariant-loop-b
invariant-loop-b l = record {
  long : length l.need ≡ length l.fn.need;
  goes : (c : ℕ) × Going l.from l.to l.fn.need l.need l.work.items l.done.items c 0;
}

abbrev pub decreases-loop-b : goal.decreases-loop-b
decreases-loop-b l = weight l.work.items l.need
