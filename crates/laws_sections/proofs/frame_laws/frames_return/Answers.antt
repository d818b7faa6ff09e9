use Rattle.laws_sections.proofs.SectionCalls.{return_law}
use Rattle.laws_sections.proofs.frame_laws.frames_return.Goals as goal

pub returns : goal.returns
returns c = return_law
