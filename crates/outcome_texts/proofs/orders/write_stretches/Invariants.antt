use Rattle.std.proofs.Common.{◌≡◌, ◌+◌, ◌≤◌, ◌++◌, drop, string_bytes}
use Rattle.outcome_texts.specs.OrderTexts.{stretches_from}
use Rattle.outcome_texts.proofs.orders.write_stretches.Given as goal

-- what is written, with the stretches that are left, is all
abbrev pub invariant-loop-t : goal.invariant-loop-t
invariant-loop-t l = record {
  text : string_bytes l.text ++ stretches_from l.worker l.events (drop l.t-index l.order)
      ≡ string_bytes l.fn.text ++ stretches_from l.fn.first 1 l.order;
  few : l.events ≤ l.t-index + 1;
}
