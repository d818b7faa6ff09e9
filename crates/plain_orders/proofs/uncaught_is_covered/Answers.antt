use Rattle.plain_orders.proofs.Uncaught.{uncaught_is_covered}
use Rattle.plain_orders.proofs.uncaught_is_covered.Goals as goal

pub returns : goal.returns
returns c = uncaught_is_covered c.runs_stand.ensures
