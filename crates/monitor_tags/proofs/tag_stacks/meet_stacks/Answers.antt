use Rattle.std.proofs.Common.{◌≡◌, min, not, length, ap, ◌∙◌, ◌||◌, nat_lt}
use Rattle.checked_program.specs.LockTags.{same_tags, meet_tags}
use Rattle.monitor_tags.proofs.StackTags.{meet_top, told_top}
use Rattle.monitor_tags.proofs.tag_stacks.meet_stacks.Goals as goal

both_are : (c : goal.After-meet_places-changed) → c.min-count.result ≡ min (length c.args.stack) (length c.args.other.now)
both_are c = c.min-count.ensures ∙ ap (λ n. min n c.len-2.result) c.len.ensures ∙ ap (λ n. min (length c.args.stack) n) c.len-2.ensures

pub returns-clause-met : goal.returns-clause-met
returns-clause-met c = c.meet_places-changed.ensures.met ∙ ap (λ l. meet_tags l c.args.other.now) c.in_ok-met.ensures ∙ meet_top c.min-count.result c.args.stack c.args.other.now (both_are c)

pub returns-clause-told : goal.returns-clause-told
returns-clause-told c = ap (λ n. nat_lt c.min-count.result n || c.meet_places-changed.result) c.len-3.ensures
    ∙ ap (λ b. nat_lt c.min-count.result (length c.args.stack) || b)
    (c.meet_places-changed.ensures.told ∙ ap (λ l. not (same_tags c.in_ok-met.met l)) c.meet_places-changed.ensures.met ∙ ap (λ l. not (same_tags l (meet_tags l c.args.other.now))) c.in_ok-met.ensures)
    ∙ told_top c.min-count.result c.args.stack c.args.other.now (both_are c)
