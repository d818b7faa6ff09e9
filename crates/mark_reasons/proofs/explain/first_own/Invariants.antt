use Rattle.std.proofs.Common.{◌≡◌, ℕ, ◌<◌, false}
use Rattle.mark_reasons.specs.Searches.{own_breaks}
use Rattle.mark_reasons.proofs.explain.first_own.Given as goal

abbrev pub invariant-loop-i : goal.invariant-loop-i
invariant-loop-i l = (j : ℕ) → j < l.i → own_breaks l.p l.uses l.mode l.method l.m l.t l.own l.rule j ≡ false
