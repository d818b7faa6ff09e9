use Rattle.std.proofs.Common.{sym}
use Rattle.code_visits.proofs.ClashLaws.{clash_at}
use Rattle.code_visits.proofs.edges.clash_at.Goals as goal

pub returns : goal.returns
returns g c = rw (c.clash_place.ensures, c.find.ensures) (sym (clash_at g.D.Frames.meeting 0 c.args.m.now.code c.args.to c.args.f.now c.args.nodes.now c.laid_out.ensures.ascend))
