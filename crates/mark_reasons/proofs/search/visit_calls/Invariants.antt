use Rattle.std.proofs.Common.{◌≡◌, Some}
use Rattle.mark_reasons.specs.Searches.{node_call, visits}
use Rattle.mark_reasons.proofs.search.visit_calls.Given as goal

abbrev pub invariant-loop-i : goal.invariant-loop-i
invariant-loop-i l = l.search ≡ visits (node_call l.p (Some l.m) (Some l.t) l.mode) l.initial.search l.caller l.i
