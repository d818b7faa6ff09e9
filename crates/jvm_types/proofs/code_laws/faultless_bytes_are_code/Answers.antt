use Rattle.jvm_types.proofs.CodeExact.{exact}
use Rattle.jvm_types.proofs.code_laws.faultless_bytes_are_code.Goals as goal

-- the law
pub returns : goal.returns
returns c = exact
