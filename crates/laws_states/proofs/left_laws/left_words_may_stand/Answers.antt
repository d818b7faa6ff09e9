use Rattle.laws_states.proofs.LeftStands.{left_may_stand}
use Rattle.laws_states.proofs.left_laws.left_words_may_stand.Goals as goal

pub returns : goal.returns
returns c = left_may_stand
