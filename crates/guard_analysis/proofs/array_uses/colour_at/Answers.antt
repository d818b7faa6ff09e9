use Rattle.guard_analysis.proofs.ColourFrames.{past_colour}
use Rattle.guard_analysis.proofs.array_uses.colour_at.Goals as goal

pub returns-in-None : goal.returns-in-None
returns-in-None c = past_colour c.args.stack.now c.args.place c.in-None.ensures.value
