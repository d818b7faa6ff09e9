use Rattle.laws_refinement.proofs.Growth.{own_keeps_attempt}
use Rattle.laws_refinement.proofs.growth_laws.own_keeps_attempt.Goals as goal

pub returns : goal.returns
returns c = own_keeps_attempt c.heap_words_fit.ensures c.effects_are_allowed.ensures
