use Rattle.laws_threads.proofs.TopEffects.{effects_allowed}
use Rattle.laws_threads.proofs.frame_laws.effects_are_allowed.Goals as goal

pub returns : goal.returns
returns c = effects_allowed
