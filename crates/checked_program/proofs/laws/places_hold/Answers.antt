use Rattle.checked_program.proofs.CheckedPlaces.{places_hold_all}
use Rattle.checked_program.proofs.laws.places_hold.Goals as goal

pub returns : goal.returns
returns c = places_hold_all
