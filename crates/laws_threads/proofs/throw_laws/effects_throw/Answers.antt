use Rattle.laws_threads.proofs.FrameThrows.{effects_throw_law}
use Rattle.laws_threads.proofs.throw_laws.effects_throw.Goals as goal

pub returns : goal.returns
returns c = effects_throw_law
