use Rattle.laws_sections.proofs.TagAnswers.{tagged_or_refused_all}
use Rattle.laws_sections.proofs.visit_laws.tagged_or_refused.Goals as goal

pub returns : goal.returns
returns c = tagged_or_refused_all
