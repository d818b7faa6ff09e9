use Rattle.std.proofs.Common.{refl}
use Rattle.code_visits.proofs.BroughtLaws.{level_brought}
use Rattle.code_visits.proofs.edges.go_to.Goals as goal

pub returns-clause-level : goal.returns-clause-level
returns-clause-level g c = rw c.in_ok-bring.ensures (level_brought g.D.Frames.meeting g.D.Frames.width (g.D.Frames.width c.args.f.now) c.args.m.now.code c.args.to c.args.f.now c.args.nodes.now
    g.met.D.Frames.lawful refl c.requires)
