use Rattle.std.proofs.Common.{◌≡◌}
use Rattle.guard_analysis.specs.OwnedFound.{owning_before}
use Rattle.guard_analysis.proofs.owned_arrays.owning_classes.Given as goal

abbrev pub invariant-loop-field : goal.invariant-loop-field
invariant-loop-field l = l.flags ≡ owning_before l.p l.frozen l.field
