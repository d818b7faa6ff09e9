use Rattle.std.proofs.Common.{◌≡◌, true, drop}
use Rattle.class_writer.specs.Testing.{has_due_gaps}
use Rattle.class_writer.proofs.pool_rules.has_due_gaps.Given as goal

abbrev pub invariant-loop-constant : goal.invariant-loop-constant
invariant-loop-constant l = has_due_gaps l.is_due (drop l.constant-index l.constant-items) ≡ has_due_gaps true l.constant-items
