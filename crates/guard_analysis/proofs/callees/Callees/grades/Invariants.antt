use Rattle.std.proofs.Common.{◌≡◌}
use Rattle.guard_analysis.specs.Faults.{grades_before}
use Rattle.guard_analysis.proofs.callees.Callees.grades.Given as goal

abbrev pub invariant-loop-i : goal.invariant-loop-i
invariant-loop-i l = l.grades.items ≡ grades_before l.p l.uses l.self.breaks.items l.self.recurs.items l.mode l.method l.m l.tags.frames l.i
