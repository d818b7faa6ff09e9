use Rattle.laws_programs.proofs.OneTyping.{one_typing}
use Rattle.laws_programs.proofs.visit_laws.one_typing.Goals as goal

pub returns : goal.returns
returns c = one_typing
