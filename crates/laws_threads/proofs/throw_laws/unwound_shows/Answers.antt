use Rattle.laws_threads.proofs.FrameThrows.{unwound_law}
use Rattle.laws_threads.proofs.throw_laws.unwound_shows.Goals as goal

pub returns : goal.returns
returns c = unwound_law
