use Rattle.laws_programs.proofs.VisitsEndAnswer.{typed_or_refused}
use Rattle.laws_programs.proofs.visit_laws.typed_or_refused.Goals as goal

pub returns : goal.returns
returns c = typed_or_refused
