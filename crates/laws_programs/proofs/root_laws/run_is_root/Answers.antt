use Rattle.laws_programs.proofs.RootMethods.{run_root}
use Rattle.laws_programs.proofs.root_laws.run_is_root.Goals as goal

pub returns : goal.returns
returns c = run_root
