use Rattle.std.proofs.Common.{◌≡◌}
use Rattle.guard_analysis.specs.OwnedFound.{element_flags_before}
use Rattle.guard_analysis.proofs.owned_arrays.element_flags.Given as goal

abbrev pub invariant-loop-i : goal.invariant-loop-i
invariant-loop-i l = l.flags ≡ element_flags_before l.owned l.colours l.i
