use Rattle.std.proofs.Common.{◌≡◌, slice_index}
use Rattle.guard_analysis.specs.SectionGrades.{earliest_before}
use Rattle.guard_analysis.proofs.marking.earliest.Given as goal

abbrev pub invariant-loop-i : goal.invariant-loop-i
invariant-loop-i l = l.first ≡ earliest_before (λ i. slice_index l.rules i) l.i
