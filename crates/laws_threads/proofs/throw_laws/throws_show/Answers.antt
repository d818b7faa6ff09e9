use Rattle.laws_threads.proofs.FrameThrows.{throws_law}
use Rattle.laws_threads.proofs.throw_laws.throws_show.Goals as goal

pub returns : goal.returns
returns c = throws_law
