use Rattle.laws_states.proofs.ClassInitsFirst.{class_inits_alone}
use Rattle.laws_states.proofs.part_laws.class_inits_run_alone.Goals as goal

pub returns : goal.returns
returns c = class_inits_alone
