use Rattle.laws_programs.proofs.FrameLast.{frame_law}
use Rattle.laws_programs.proofs.local_laws.frames_fit.Goals as goal

pub returns : goal.returns
returns c = frame_law
