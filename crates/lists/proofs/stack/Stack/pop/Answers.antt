use Rattle.lists.proofs.StackLaws.{top_first_pop}
use Rattle.lists.proofs.stack.Stack.pop.Goals as goal

pub returns : goal.returns
returns g c = rw (← c.self.view_is) (top_first_pop c.pop.result _ _ c.pop.ensures)
