use Rattle.jvm_types.proofs.CodeLaws.{faultless}
use Rattle.jvm_types.proofs.code_laws.code_is_faultless.Goals as goal

-- the law
pub returns : goal.returns
returns c = faultless
