use Rattle.monitor_tags.proofs.StayLaws.{stay_on}
use Rattle.monitor_tags.proofs.tag_stacks.stack_stays.Goals as goal

pub loop-place-preserved : goal.loop-place-preserved
loop-place-preserved c = stay_on c.args.stack.now c.args.other.now c.loop-place.place c.tag_on.result c.tag_on-in-loop-place.result _ c.tag_on.ensures c.tag_on-in-loop-place.ensures c.if-not-tag_stays.ensures c.loop-place.invariant
