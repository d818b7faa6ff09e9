use Rattle.std.proofs.Common.{◌≡◌, ℕ, ◌≤◌, List, length}
use Rattle.graph_closure.specs.Chains.{Going, latest, weight}
use Rattle.graph_closure.proofs.release.Given as goal

abbrev pub invariant-loop-at : goal.invariant-loop-at
invariant-loop-at l = record {
  long : length l.need ≡ length l.fn.need;
  again : latest l.to l.b l.at ≡ l.at;
  fits : l.at ≤ length l.to;
  less : weight l.work.items l.need ≤ weight l.fn.work.items l.fn.need;
  goes : (start : List ℕ) → length start ≡ length l.fn.need → Going l.from l.to start l.fn.need l.fn.work.items l.done l.b (latest l.to l.b (length l.to)) → Going l.from l.to start l.need l.work.items l.done l.b l.at;
}

abbrev pub decreases-loop-at : goal.decreases-loop-at
decreases-loop-at l = l.at
