use Rattle.std.proofs.Common.{◌≡◌, ℕ, ◌<◌, false}
use Rattle.mark_reasons.specs.Searches.{own_call, turns}
use Rattle.mark_reasons.proofs.explain.first_own_turn.Given as goal

abbrev pub invariant-loop-i : goal.invariant-loop-i
invariant-loop-i l = (j : ℕ) → j < l.i → turns l.recurs (own_call l.p l.mode l.m l.t.frames l.own j) ≡ false
