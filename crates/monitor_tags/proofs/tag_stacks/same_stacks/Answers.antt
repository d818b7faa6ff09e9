use Rattle.std.proofs.Common.{◌∙◌, suc, drop, sym, ap, add-one, ◌&&◌}
use Rattle.checked_program.specs.LockTags.{same_tags}
use Rattle.monitor_tags.proofs.StackTags.{other_length, same_place}
use Rattle.monitor_tags.proofs.tag_stacks.same_stacks.Goals as goal

pub returns-then-len : goal.returns-then-len
returns-then-len c = sym (other_length c.args.stack.now c.args.other.now (λ e. c.if-len.true (c.len.ensures ∙ e ∙ sym c.len-2.ensures)))

pub returns-then-not-same_tag : goal.returns-then-not-same_tag
returns-then-not-same_tag c = ap (λ b. b && same_tags (drop (suc c.loop-place.place) c.args.stack.now) (drop (suc c.loop-place.place) c.args.other.now)) (sym c.if-not-same_tag.true ∙ c.same_tag.ensures)
    ∙ sym (same_place c.args.stack.now c.args.other.now c.loop-place.place c.tag_on.result c.tag_on-in-loop-place.result c.tag_on.ensures c.tag_on-in-loop-place.ensures) ∙ c.loop-place.invariant

pub loop-place-preserved : goal.loop-place-preserved
loop-place-preserved c = rw add-one (ap (λ b. b && same_tags (drop (suc c.loop-place.place) c.args.stack.now) (drop (suc c.loop-place.place) c.args.other.now)) (sym c.if-not-same_tag.false ∙ c.same_tag.ensures)
    ∙ sym (same_place c.args.stack.now c.args.other.now c.loop-place.place c.tag_on.result c.tag_on-in-loop-place.result c.tag_on.ensures c.tag_on-in-loop-place.ensures) ∙ c.loop-place.invariant)
