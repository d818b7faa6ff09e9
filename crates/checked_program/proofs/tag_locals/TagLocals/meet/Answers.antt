use Rattle.std.proofs.Common.{◌≡◌, max, min, length, not, sym, ap, ◌∙◌, ◌||◌, nat_lt}
use Rattle.checked_program.{specs.LockTags.{filled_tags, same_tags, meet_tags}, proofs.FilledTags.{length_filled, meet_filled, told_filled}}
use Rattle.checked_program.proofs.tag_locals.TagLocals.meet.Goals as goal

-- how many there are, and how many both have
all_is : (c : goal.After-meet_first-changed) → length c.args.self.now ≡ max c.self.inside.count (length c.self.inside.first)
all_is c = ap length (sym c.self.view_is) ∙ length_filled c.self.inside.count c.self.inside.first

both_is : (c : goal.After-meet_first-changed) → c.min-count.result ≡ min (max c.self.inside.count (length c.self.inside.first)) (length c.args.other.now)
both_is c = c.min-count.ensures ∙ ap (λ n. min n c.len-2.result) (c.len.ensures ∙ all_is c) ∙ ap (λ n. min (max c.self.inside.count (length c.self.inside.first)) n) c.len-2.ensures

met_is : (c : goal.After-meet_first-changed) → filled_tags c.min-count.result c.meet_first-changed.new.tags ≡ meet_tags c.args.self.now c.args.other.now
met_is c = rw (c.meet_first-changed.ensures.met, c.truncate.ensures) (meet_filled c.self.inside.count c.min-count.result c.self.inside.first c.args.other.now (both_is c) ∙ ap (λ l. meet_tags l c.args.other.now) c.self.view_is)

pub returns-clause-met : goal.returns-clause-met
returns-clause-met c = met_is c

pub returns-clause-told : goal.returns-clause-told
returns-clause-told c = ap (λ n. nat_lt c.min-count.result n || c.meet_first-changed.result) (c.len-3.ensures ∙ all_is c)
    ∙ ap (λ b. nat_lt c.min-count.result (max c.self.inside.count (length c.self.inside.first)) || b)
    (c.meet_first-changed.ensures.told ∙ ap (λ l. not (same_tags c.truncate.new.self l)) c.meet_first-changed.ensures.met ∙ ap (λ l. not (same_tags l (meet_tags l c.args.other.now))) c.truncate.ensures)
    ∙ told_filled c.self.inside.count c.min-count.result c.self.inside.first c.args.other.now (both_is c)
    ∙ ap (λ l. not (same_tags l (meet_tags l c.args.other.now))) c.self.view_is ∙ ap (λ l. not (same_tags c.args.self.now l)) (sym (met_is c))
