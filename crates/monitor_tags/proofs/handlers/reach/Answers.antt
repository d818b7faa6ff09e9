use Rattle.monitor_tags.proofs.RowsRest.{rests_here}
use Rattle.monitor_tags.proofs.handlers.reach.Goals as goal

pub returns-then-rests-clause-left : goal.returns-then-rests-clause-left
returns-then-rests-clause-left c = rests_here c.args.m.now c.args.f.now c.args.to c.args.nodes.now c.laid_out.ensures.ascend c.requires.level.long (c.requires.rest c.if-rests.true)
