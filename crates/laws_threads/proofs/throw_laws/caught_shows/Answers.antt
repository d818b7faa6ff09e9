use Rattle.laws_threads.proofs.FrameThrows.{caught_law}
use Rattle.laws_threads.proofs.throw_laws.caught_shows.Goals as goal

pub returns : goal.returns
returns c = caught_law
