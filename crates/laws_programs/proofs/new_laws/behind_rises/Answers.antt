use Rattle.laws_programs.proofs.NewEdges.{behind_rises}
use Rattle.laws_programs.proofs.new_laws.behind_rises.Goals as goal

pub returns : goal.returns
returns c = behind_rises
