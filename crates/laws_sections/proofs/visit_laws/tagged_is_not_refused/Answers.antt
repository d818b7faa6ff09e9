use Rattle.laws_sections.proofs.TagAnswers.{no_refusal}
use Rattle.laws_sections.proofs.visit_laws.tagged_is_not_refused.Goals as goal

pub returns : goal.returns
returns c = no_refusal
