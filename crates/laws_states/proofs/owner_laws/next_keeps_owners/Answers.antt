use Rattle.laws_states.proofs.PartOwners.{next_keeps_owners}
use Rattle.laws_states.proofs.owner_laws.next_keeps_owners.Goals as goal

pub returns : goal.returns
returns c = next_keeps_owners
