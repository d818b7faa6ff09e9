use Rattle.std.proofs.Common.{◌≡◌, ℕ, ◌∙◌, false, sym, below_more}
use Rattle.mark_reasons.specs.Causes.{writes_at}
use Rattle.mark_reasons.proofs.cause.first_write_at.Goals as goal

pub loop-i-preserved : goal.loop-i-preserved
loop-i-preserved c = below_more (λ (j : ℕ). writes_at c.args.p.now c.args.m.now c.args.t.now.frames c.args.field j ≡ false) c.loop-i.i c.loop-i.invariant (sym c.writes_at.ensures ∙ c.if-writes_at.false)
