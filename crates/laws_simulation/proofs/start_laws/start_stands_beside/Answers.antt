use Rattle.laws_simulation.proofs.StartsBeside.{start_beside}
use Rattle.laws_simulation.proofs.start_laws.start_stands_beside.Goals as goal

pub returns : goal.returns
returns c = start_beside c.start_agrees.ensures c.start_lies_apart.ensures
