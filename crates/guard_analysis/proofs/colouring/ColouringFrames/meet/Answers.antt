use Rattle.std.proofs.Common.{not, sym, ap}
use Rattle.guard_analysis.specs.ColourWork.{own_colours}
use Rattle.guard_analysis.proofs.colouring.ColouringFrames.meet.Goals as goal

pub returns-clause-told : goal.returns-clause-told
returns-clause-told c = ap not (sym (own_colours c.args.f))
