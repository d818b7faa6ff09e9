use Rattle.std.proofs.Common.{◌∙◌}
use Rattle.handler_rows.proofs.PickedRows.{passed_on}
use Rattle.handler_rows.proofs.handled_method.HandledMethod.next_row.Goals as goal

pub loop-k-preserved : goal.loop-k-preserved
loop-k-preserved c = passed_on c.args.pc c.args.from c.args.self.now.rows c.loop-k.k c.passed.result c.passed.ensures ∙ c.loop-k.invariant
