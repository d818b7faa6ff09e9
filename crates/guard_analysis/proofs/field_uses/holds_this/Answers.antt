use Rattle.std.proofs.Common.{◌<◌, ◌∙◌, length, sym, ap, arith}
use Rattle.checked_program.specs.LockTags.{is_this}
use Rattle.guard_analysis.proofs.HeldTags.{found_this, no_this}
use Rattle.guard_analysis.proofs.field_uses.holds_this.Goals as goal

pub returns-then-is_this : goal.returns-then-is_this
returns-then-is_this c =
    let inside : c.loop-place.place < length c.args.held.now = omega (arith, c.loop-place-test.true, c.len-place-end.ensures) in
    found_this c.args.held.now c.loop-place.place inside c.loop-place.invariant (ap is_this (sym c.held_tag.ensures) ∙ sym c.is_this.ensures ∙ c.if-is_this.true)

pub loop-place-preserved : goal.loop-place-preserved
loop-place-preserved c =
    let inside : c.loop-place.place < length c.args.held.now = omega (arith, c.loop-place-test.true, c.len-place-end.ensures) in
    no_this c.args.held.now c.loop-place.place inside c.loop-place.invariant (ap is_this (sym c.held_tag.ensures) ∙ sym c.is_this.ensures ∙ c.if-is_this.false)
