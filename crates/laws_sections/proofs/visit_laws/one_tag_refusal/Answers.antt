use Rattle.laws_sections.proofs.TagAnswers.{one_refusal_all}
use Rattle.laws_sections.proofs.visit_laws.one_tag_refusal.Goals as goal

pub returns : goal.returns
returns c = one_refusal_all
