use Rattle.laws_programs.proofs.EntryFrame.{arguments_fit_all}
use Rattle.laws_programs.proofs.entry_laws.arguments_fit.Goals as goal

pub returns : goal.returns
returns c = arguments_fit_all
