use Rattle.laws_sections.proofs.MarkedReads.{read_law}
use Rattle.laws_sections.proofs.frame_laws.sections_read.Goals as goal

pub returns : goal.returns
returns c = read_law
