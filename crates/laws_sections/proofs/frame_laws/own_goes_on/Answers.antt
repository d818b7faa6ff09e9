use Rattle.laws_sections.proofs.SectionMoves.{own_law}
use Rattle.laws_sections.proofs.frame_laws.own_goes_on.Goals as goal

pub returns : goal.returns
returns c = own_law
