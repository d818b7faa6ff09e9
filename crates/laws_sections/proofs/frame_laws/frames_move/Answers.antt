use Rattle.laws_sections.proofs.SectionMoves.{move_law}
use Rattle.laws_sections.proofs.frame_laws.frames_move.Goals as goal

pub returns : goal.returns
returns c = move_law
