use Rattle.class_writer.specs.Building.{IsAbsentBelow}
use Rattle.class_writer.proofs.builder.find.Given as goal

abbrev pub invariant-loop-i : goal.invariant-loop-i
invariant-loop-i l = IsAbsentBelow l.i l.entry-items l.constant
