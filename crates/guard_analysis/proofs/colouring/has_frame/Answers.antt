use Rattle.std.proofs.Common.{sym}
use Rattle.guard_analysis.proofs.ColourRests.{rests_there}
use Rattle.guard_analysis.proofs.colouring.has_frame.Goals as goal

pub returns-in-Some-frame : goal.returns-in-Some-frame
returns-in-Some-frame c = λ e stack. rests_there c.args.m.now c.args.to c.in-Some.i c.in-Some-frame._frame.now stack c.args.nodes.now c.requires.long (sym c.in-Some.ensures) c.in-Some-frame.ensures
