use Rattle.jvm_types.proofs.LinkedLaws.{linked_is_program}
use Rattle.jvm_types.proofs.link_laws.linked_is_program.Goals as goal

pub returns : goal.returns
returns c = linked_is_program
