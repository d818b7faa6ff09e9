use Rattle.std.proofs.Common.{◌≡◌, ◌+◌, ◌≤◌, drop}
use Rattle.outcome_texts.specs.AllFacts.{stuck_count}
use Rattle.outcome_texts.proofs.all.stuck_count.Given as goal

abbrev pub invariant-loop-x : goal.invariant-loop-x
invariant-loop-x l = record {
  count : l.count + stuck_count (drop l.x-index l.listed) ≡ stuck_count l.listed;
  few : l.count ≤ l.x-index;
}
