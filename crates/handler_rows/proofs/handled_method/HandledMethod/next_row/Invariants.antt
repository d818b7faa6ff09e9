use Rattle.std.proofs.Common.{◌≡◌, ◌-◌, drop, length}
use Rattle.handler_rows.specs.HandlerRows.{picked}
use Rattle.handler_rows.proofs.handled_method.HandledMethod.next_row.Given as goal

abbrev pub invariant-loop-k : goal.invariant-loop-k
invariant-loop-k l = picked l.pc l.from (drop l.k l.self.rows) ≡ picked l.pc l.from (drop l.first l.self.rows)

abbrev pub decreases-loop-k : goal.decreases-loop-k
decreases-loop-k l = length l.self.rows - l.k
