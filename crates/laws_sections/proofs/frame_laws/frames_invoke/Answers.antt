use Rattle.laws_sections.proofs.SectionCalls.{invoke_law}
use Rattle.laws_sections.proofs.frame_laws.frames_invoke.Goals as goal

pub returns : goal.returns
returns c = invoke_law
