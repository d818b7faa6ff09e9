use Rattle.std.proofs.Common.{sym}
use Rattle.handler_rows.proofs.HullLaws.{hull_passed}
use Rattle.handler_rows.proofs.handled_method.HandledMethod.passed.Goals as goal

pub returns-then-not-may_have : goal.returns-then-not-may_have
returns-then-not-may_have c = rw c.count.ensures (hull_passed c.hull-hull.result c.args.pc c.args.from _ c.hull-hull.ensures (sym c.if-not-may_have.ensures))
