use Rattle.laws_simulation.proofs.NextBeside.{next_beside}
use Rattle.laws_simulation.proofs.start_laws.next_stands_beside.Goals as goal

pub returns : goal.returns
returns c = next_beside c.run_stands.ensures
