use Rattle.laws_states.proofs.LeftAsTheyWere.{parts_leave_words}
use Rattle.laws_states.proofs.change_laws.parts_leave_words.Goals as goal

pub returns : goal.returns
returns c = parts_leave_words
