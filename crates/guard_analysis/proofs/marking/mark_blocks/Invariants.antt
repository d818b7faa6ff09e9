use Rattle.std.specs.Option.{IfSome}
use Rattle.checked_program.specs.TaggedCode.{tagged_by}
use Rattle.guard_analysis.specs.{BlockReach.AreReaches, SectionGrades.MarksUpTo}
use Rattle.guard_analysis.proofs.marking.mark_blocks.Given as goal

abbrev pub invariant-loop-i : goal.invariant-loop-i
invariant-loop-i l = record {
  known : IfSome l.known (AreReaches l.m l.t.frames l.grades);
  marks : MarksUpTo l.p (tagged_by l.tags) l.uses l.method l.m.code l.i l.fn.marks l.marks;
}
