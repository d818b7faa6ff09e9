use Rattle.std.proofs.Common.{◌≡◌, ℕ, ◌<◌, false, Some, nat_lt}
use Rattle.mark_reasons.specs.Searches.{node_fault}
use Rattle.mark_reasons.proofs.search.first_fault.Given as goal

abbrev pub invariant-loop-i : goal.invariant-loop-i
invariant-loop-i l = (j : ℕ) → j < l.i → nat_lt 0 (node_fault l.p l.uses l.method (Some l.m) (Some l.t) l.mode j) ≡ false
