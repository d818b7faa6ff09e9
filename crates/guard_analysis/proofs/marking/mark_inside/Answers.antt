use Rattle.guard_analysis.proofs.BlockReaches.{first_is}
use Rattle.guard_analysis.proofs.marking.mark_inside.Goals as goal

pub returns-clause-mark : goal.returns-clause-mark
returns-clause-mark c = first_is c.args.m.now c.args.tags.now.frames c.args.grades.now c.in_ok-reaches.reaches c.args.depth c.args.i c.in_ok-mark.mark c.in_ok-reaches.ensures c.in_ok-mark.ensures
