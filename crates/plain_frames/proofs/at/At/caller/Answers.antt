use Rattle.std.proofs.Common.{arith, ◌∙◌, ap, ◌+◌}
use Rattle.machine_types.specs.Frames.{Top, top_of}
use Rattle.plain_frames.proofs.TopPlaces.{no_below}
use Rattle.plain_frames.proofs.at.At.caller.Goals as goal

pub returns-then-len-saturating_add-clause-top : goal.returns-then-len-saturating_add-clause-top
returns-then-len-saturating_add-clause-top c =
    no_below c.args.p.now.program c.self.inside.frames.now (c.self.inside.down + 1) (omega (arith, c.len.ensures, c.saturating_add.ensures, c.if-len-saturating_add.true))
    ∙ ap (λ (at : Top). top_of c.args.p.now.program at.below) c.self.view_is
