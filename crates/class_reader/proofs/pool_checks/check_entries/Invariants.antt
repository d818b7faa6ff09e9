use Rattle.std.proofs.Common.{◌≡◌, drop}
use Rattle.jvm_types.specs.ReadingPool.{entries_wanted}
use Rattle.class_reader.proofs.pool_checks.check_entries.Given as goal

abbrev pub invariant-loop-i : goal.invariant-loop-i
invariant-loop-i l = entries_wanted l.pool (drop l.i l.pool) l.left ≡ entries_wanted l.pool l.pool l.fn.left
