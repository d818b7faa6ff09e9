use Rattle.std.proofs.Common.{◌≡◌}
use Rattle.guard_analysis.specs.OwnedFound.{fields_left_before}
use Rattle.guard_analysis.proofs.owned_arrays.fields_left.Given as goal

abbrev pub invariant-loop-field : goal.invariant-loop-field
invariant-loop-field l = l.owned ≡ fields_left_before l.p l.frozen l.outs l.field
