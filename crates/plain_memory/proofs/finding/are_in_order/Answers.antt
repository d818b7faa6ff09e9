use Rattle.std.proofs.Common.{leb-true}
use Rattle.plain_memory.proofs.OrderLaws.{all_in_order}
use Rattle.plain_memory.proofs.finding.are_in_order.Goals as goal

pub returns : goal.returns
returns c = λ e. all_in_order c.args.objects.now c.loop-o.o-index c.loop-o.end c.args.next c.loop-o-test.false c.loop-o.invariant (leb-true _ _ e)
