use Rattle.std.proofs.Common.{◌≡◌, drop}
use Rattle.jvm_types.specs.ReadingPool.{text_wanted}
use Rattle.class_reader.proofs.pool_entries.check_text.Given as goal

abbrev pub invariant-loop-i : goal.invariant-loop-i
invariant-loop-i l = text_wanted (drop l.i l.text) l.behind ≡ text_wanted l.text l.behind
