use Rattle.laws_programs.proofs.Orders.{frames_meet_least}
use Rattle.laws_programs.proofs.order_laws.frames_meet.Goals as goal

pub returns : goal.returns
returns c = frames_meet_least
