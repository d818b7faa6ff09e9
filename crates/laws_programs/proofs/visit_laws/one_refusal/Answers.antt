use Rattle.laws_programs.proofs.OneTyping.{one_refusal}
use Rattle.laws_programs.proofs.visit_laws.one_refusal.Goals as goal

pub returns : goal.returns
returns c = one_refusal
