use Rattle.laws_sections.proofs.SectionCalls.{resume_law}
use Rattle.laws_sections.proofs.frame_laws.callers_go_on.Goals as goal

pub returns : goal.returns
returns c = resume_law
