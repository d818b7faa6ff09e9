use Rattle.code_visits.proofs.StayLaws.{stays_there}
use Rattle.code_visits.proofs.meeting.stays_at.Goals as goal

pub returns-in-Some : goal.returns-in-Some
returns-in-Some g c = λ e. stays_there g.D.Frames.meeting g.D.Frames.width c.args.nodes.now c.args.i c.in-Some.frame.now c.args.f.now g.met.D.Frames.lawful c.in-Some.ensures (c.stays.ensures e)
