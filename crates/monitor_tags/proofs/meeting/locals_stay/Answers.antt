use Rattle.monitor_tags.proofs.StayLaws.{stay_on}
use Rattle.monitor_tags.proofs.meeting.locals_stay.Goals as goal

pub loop-i-preserved : goal.loop-i-preserved
loop-i-preserved c = stay_on c.args.locals.now c.args.other.now c.loop-i.i c.tag_of_local.result c.tag_of_local-in-loop-i.result _ c.tag_of_local.ensures c.tag_of_local-in-loop-i.ensures c.if-not-tag_stays.ensures c.loop-i.invariant
