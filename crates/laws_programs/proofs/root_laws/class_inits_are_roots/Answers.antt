use Rattle.laws_programs.proofs.RootMethods.{class_inits}
use Rattle.laws_programs.proofs.root_laws.class_inits_are_roots.Goals as goal

pub returns : goal.returns
returns c = class_inits
