use Rattle.laws_objects.proofs.ThrownInits.{thrown_leave_no_use}
use Rattle.laws_objects.proofs.unfinished_laws.thrown_inits_leave_no_use.Goals as goal

pub returns : goal.returns
returns c = search thrown_leave_no_use
