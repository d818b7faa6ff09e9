use Rattle.laws_programs.proofs.RootMethods.{entries}
use Rattle.laws_programs.proofs.root_laws.entries_are_roots.Goals as goal

pub returns : goal.returns
returns c = entries
