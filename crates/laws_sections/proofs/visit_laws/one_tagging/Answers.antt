use Rattle.laws_sections.proofs.TagAnswers.{one_tagging_all}
use Rattle.laws_sections.proofs.visit_laws.one_tagging.Goals as goal

pub returns : goal.returns
returns c = one_tagging_all
