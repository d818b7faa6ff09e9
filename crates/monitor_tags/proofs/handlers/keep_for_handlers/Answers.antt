use Rattle.std.proofs.Common.{sym}
use Rattle.monitor_tags.proofs.HandlerLaws.{no_catchers}
use Rattle.monitor_tags.proofs.handlers.keep_for_handlers.Goals as goal

pub returns-else-has_catchers : goal.returns-else-has_catchers
returns-else-has_catchers c = no_catchers c.args.m.now c.args.insn.now (sym c.if-has_catchers.ensures)
