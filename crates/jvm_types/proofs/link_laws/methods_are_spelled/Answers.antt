use Rattle.jvm_types.proofs.DescriptorProofs.{methods_spelled}
use Rattle.jvm_types.proofs.link_laws.methods_are_spelled.Goals as goal

pub returns : goal.returns
returns c = methods_spelled
