use Rattle.std.proofs.Common.{sym}
use Rattle.handler_rows.proofs.PickedRows.{uncovered}
use Rattle.code_verifier.proofs.handlers.keep_for_handlers.Goals as goal

pub returns-else-is_covered : goal.returns-else-is_covered
returns-else-is_covered c = uncovered c.args.pc c.args.m.now.rows (sym c.if-is_covered.ensures)
