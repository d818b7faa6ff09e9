use Rattle.laws_sections.proofs.SectionCalls.{begin_law}
use Rattle.laws_sections.proofs.frame_laws.blocks_begin.Goals as goal

pub returns : goal.returns
returns c = begin_law
