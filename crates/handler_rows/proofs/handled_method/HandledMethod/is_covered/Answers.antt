use Rattle.std.proofs.Common.{◌∙◌}
use Rattle.handler_rows.proofs.PickedRows.{found_covers}
use Rattle.handler_rows.proofs.handled_method.HandledMethod.is_covered.Goals as goal

pub returns : goal.returns
returns c = c.is_some.ensures ∙ found_covers c.args.pc c.args.self.now.rows c.next_row.result (λ f. f.0) (λ f. f.1.now) c.next_row.ensures.none c.next_row.ensures.some
