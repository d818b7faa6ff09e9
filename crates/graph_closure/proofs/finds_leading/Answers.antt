use Rattle.graph_closure.proofs.WalkLaws.{finds_leading}
use Rattle.graph_closure.proofs.finds_leading.Goals as goal

pub returns : goal.returns
returns c = finds_leading
