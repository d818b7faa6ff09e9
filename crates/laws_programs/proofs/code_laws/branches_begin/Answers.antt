use Rattle.laws_programs.proofs.CodeOrder.{branches_begin}
use Rattle.laws_programs.proofs.code_laws.branches_begin.Goals as goal

pub returns : goal.returns
returns c = branches_begin
