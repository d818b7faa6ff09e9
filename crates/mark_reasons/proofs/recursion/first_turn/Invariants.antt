use Rattle.std.proofs.Common.{◌≡◌, ℕ, ◌<◌, false, Some}
use Rattle.mark_reasons.specs.Searches.{node_call, turns}
use Rattle.mark_reasons.proofs.recursion.first_turn.Given as goal

abbrev pub invariant-loop-i : goal.invariant-loop-i
invariant-loop-i l = (j : ℕ) → j < l.i → turns l.recurs (node_call l.p (Some l.m) (Some l.t) l.mode j) ≡ false
