use Rattle.jvm_types.proofs.ClassLawProofs.{reads_what_is_spelled}
use Rattle.jvm_types.proofs.class_laws.read_what_is_spelled.Goals as goal

pub returns : goal.returns
returns c = reads_what_is_spelled
