use Rattle.monitor_tags.proofs.StayLaws.{frame_stays}
use Rattle.monitor_tags.proofs.meeting.stays.Goals as goal

pub returns-then-stack_stays : goal.returns-then-stack_stays
returns-then-stack_stays c = λ e. frame_stays c.args.frame.now c.args.other.now c.stack.result.now c.stack-2.result.now c.locals.result.now c.locals-then-stack_stays.result.now
    c.stack.ensures c.stack-2.ensures c.locals.ensures c.locals-then-stack_stays.ensures (c.stack_stays.ensures c.if-stack_stays.true) (c.locals_stay.ensures e)
