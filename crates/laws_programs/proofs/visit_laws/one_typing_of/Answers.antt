use Rattle.laws_programs.proofs.KnownTyping.{typing_of_one}
use Rattle.laws_programs.proofs.visit_laws.one_typing_of.Goals as goal

pub returns : goal.returns
returns c = typing_of_one
