use Rattle.std.proofs.Common.{◌≡◌}
use Rattle.guard_analysis.specs.Faults.{breaks_before}
use Rattle.guard_analysis.proofs.faults.breaks.Given as goal

abbrev pub invariant-loop-i : goal.invariant-loop-i
invariant-loop-i l = l.found ≡ breaks_before l.p l.uses l.method l.m l.tags.frames l.mode l.i
