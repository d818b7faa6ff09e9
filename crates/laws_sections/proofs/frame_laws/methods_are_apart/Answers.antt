use Rattle.laws_sections.proofs.SectionCalls.{apart_law}
use Rattle.laws_sections.proofs.frame_laws.methods_are_apart.Goals as goal

pub returns : goal.returns
returns c = apart_law
