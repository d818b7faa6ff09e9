use Rattle.std.proofs.Common.{◌-◌, length}
use Rattle.handler_rows.proofs.handled_method.HandledMethod.steps.Given as goal

abbrev pub decreases-loop-k : goal.decreases-loop-k
decreases-loop-k l = length l.self.rows - l.k
