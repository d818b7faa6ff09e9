use Rattle.std.proofs.Common.{take}
use Rattle.plain_memory.specs.Order.{AreInOrder}
use Rattle.plain_memory.proofs.finding.are_in_order.Given as goal

abbrev pub invariant-loop-o : goal.invariant-loop-o
invariant-loop-o l = AreInOrder (take l.o-index l.objects) l.end
