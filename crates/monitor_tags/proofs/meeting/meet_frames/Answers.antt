use Rattle.std.proofs.Common.{not, ap, ◌∙◌}
use Rattle.checked_program.specs.LockTags.{same_tags, meet_tags}
use Rattle.monitor_tags.proofs.StackTags.{frames_told}
use Rattle.monitor_tags.proofs.meeting.meet_frames.Goals as goal

pub returns-clause-told : goal.returns-clause-told
returns-clause-told c = frames_told c.args.frame c.args.other.now c.in_ok-met.stack_changed c.meet-locals_changed.result
    (c.in_ok-met.ensures.told ∙ ap (λ l. not (same_tags l (meet_tags l c.stack.result.now))) c.in_ok-stack.ensures.stack ∙ ap (λ l. not (same_tags c.args.frame.stack (meet_tags c.args.frame.stack l))) c.stack.ensures)
    (c.meet-locals_changed.ensures.told ∙ ap (λ l. not (same_tags c.in_ok-stack.locals l)) c.meet-locals_changed.ensures.met
    ∙ ap (λ l. not (same_tags l (meet_tags l c.locals-other_locals.result.now))) c.in_ok-stack.ensures.locals ∙ ap (λ l. not (same_tags c.args.frame.locals (meet_tags c.args.frame.locals l))) c.locals-other_locals.ensures)
