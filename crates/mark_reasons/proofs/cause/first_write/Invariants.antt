use Rattle.std.proofs.Common.{ℕ, ◌<◌}
use Rattle.checked_program.specs.TaggedCode.{tagged_by}
use Rattle.mark_reasons.specs.Causes.{WritesUnguarded}
use Rattle.mark_reasons.proofs.cause.first_write.Given as goal

abbrev pub invariant-loop-method : goal.invariant-loop-method
invariant-loop-method l = (mi : ℕ) → mi < l.method → (i : ℕ) → WritesUnguarded l.p (tagged_by l.tags) l.field mi i → ⊥
