use Rattle.jvm_types.proofs.CodeOnce.{once}
use Rattle.jvm_types.proofs.code_laws.code_spells_once.Goals as goal

-- the law
pub returns : goal.returns
returns c = once
