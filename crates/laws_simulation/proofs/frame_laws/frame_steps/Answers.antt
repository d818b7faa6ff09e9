use Rattle.laws_simulation.proofs.FrameEffects.{frame_steps}
use Rattle.laws_simulation.proofs.frame_laws.frame_steps.Goals as goal

pub returns : goal.returns
returns c = frame_steps c.sites_differ.ensures c.sites_lie_inside.ensures c.heap_words_fit.ensures c.effects_are_allowed.ensures
