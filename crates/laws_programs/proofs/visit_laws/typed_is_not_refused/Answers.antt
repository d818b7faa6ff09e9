use Rattle.laws_programs.proofs.OneTyping.{no_refusal}
use Rattle.laws_programs.proofs.visit_laws.typed_is_not_refused.Goals as goal

pub returns : goal.returns
returns c = no_refusal
