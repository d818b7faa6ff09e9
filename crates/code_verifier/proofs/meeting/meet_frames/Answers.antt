use Rattle.std.proofs.Common.{not, ap, ◌∙◌, ◌&&◌}
use Rattle.jvm_types.specs.Types.{same_type, all_pairs, meets}
use Rattle.code_verifier.proofs.FrameLaws.{frames_met, frames_told}
use Rattle.code_verifier.proofs.meeting.meet_frames.Goals as goal

pub returns-clause-met : goal.returns-clause-met
returns-clause-met c = c.in_ok-met.ensures ∙ frames_met c.args.frame c.args.other.now c.local_count-local_count.result c.in_ok-stack.locals c.meet_locals-locals_changed.new.locals c.meet_stacks-stack_changed.new.stack _
    c.local_count-local_count.ensures c.requires.wide c.in_ok-stack.ensures.locals
    (c.meet_stacks-stack_changed.ensures.met ∙ ap (λ l. meets l c.stack.result.now) c.in_ok-stack.ensures.stack ∙ ap (λ l. meets c.args.frame.stack l) c.stack.ensures)
    c.meet_locals-locals_changed.ensures.met (ap (λ b. b && c.is_ready.result) c.in_ok-stack.ensures.ready ∙ ap (λ b. c.args.frame.ready && b) c.is_ready.ensures)

pub returns-clause-told : goal.returns-clause-told
returns-clause-told c = frames_told c.args.frame c.args.other.now c.in_ok-stack.locals c.meet_stacks-stack_changed.result c.meet_locals-locals_changed.result c.in_ok-stack.was_ready c.is_ready.result
    c.requires.wide c.in_ok-stack.ensures.locals
    (c.meet_stacks-stack_changed.ensures.told ∙ ap (λ l. not (all_pairs same_type c.in_ok-stack.stack l)) c.meet_stacks-stack_changed.ensures.met
    ∙ ap (λ l. not (all_pairs same_type l (meets l c.stack.result.now))) c.in_ok-stack.ensures.stack ∙ ap (λ l. not (all_pairs same_type c.args.frame.stack (meets c.args.frame.stack l))) c.stack.ensures)
    (c.meet_locals-locals_changed.ensures.told ∙ ap (λ l. not (all_pairs same_type c.in_ok-stack.locals l)) c.meet_locals-locals_changed.ensures.met)
    c.in_ok-stack.ensures.ready c.is_ready.ensures
