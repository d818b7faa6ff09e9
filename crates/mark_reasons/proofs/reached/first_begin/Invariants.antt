use Rattle.std.proofs.Common.{◌≡◌, ℕ, ◌<◌, false}
use Rattle.mark_reasons.specs.ReachedSpots.{block_begins}
use Rattle.mark_reasons.proofs.reached.first_begin.Given as goal

abbrev pub invariant-loop-i : goal.invariant-loop-i
invariant-loop-i l = (j : ℕ) → j < l.i → block_begins l.m l.t.frames l.pc j ≡ false
