use Rattle.laws_threads.proofs.HeldBound.{has_room}
use Rattle.laws_threads.proofs.held_laws.held_has_room.Goals as goal

pub returns : goal.returns
returns c = has_room
