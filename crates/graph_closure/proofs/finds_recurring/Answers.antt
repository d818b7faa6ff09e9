use Rattle.graph_closure.proofs.WalkLaws.{finds_recurring}
use Rattle.graph_closure.proofs.finds_recurring.Goals as goal

pub returns : goal.returns
returns c = finds_recurring
