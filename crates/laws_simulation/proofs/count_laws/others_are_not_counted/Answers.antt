use Rattle.laws_simulation.proofs.PlainCounts.{others_are_not_counted}
use Rattle.laws_simulation.proofs.count_laws.others_are_not_counted.Goals as goal

pub returns : goal.returns
returns c = others_are_not_counted
