use Rattle.std.proofs.Common.{◌≡◌, ℕ, ◌<◌, false}
use Rattle.mark_reasons.specs.Causes.{writes_at}
use Rattle.mark_reasons.proofs.cause.first_write_at.Given as goal

abbrev pub invariant-loop-i : goal.invariant-loop-i
invariant-loop-i l = (j : ℕ) → j < l.i → writes_at l.p l.m l.t.frames l.field j ≡ false
