use Rattle.laws_sections.proofs.SectionCalls.{mode_law}
use Rattle.laws_sections.proofs.frame_laws.frames_are_run.Goals as goal

pub returns : goal.returns
returns c = mode_law
