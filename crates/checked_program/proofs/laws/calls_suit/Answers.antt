use Rattle.checked_program.proofs.CheckedPlaces.{calls_suit_all}
use Rattle.checked_program.proofs.laws.calls_suit.Goals as goal

pub returns : goal.returns
returns c = calls_suit_all
