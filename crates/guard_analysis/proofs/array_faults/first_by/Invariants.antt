use Rattle.std.proofs.Common.{◌≡◌, ◌<◌, ℕ, None}
use Rattle.guard_analysis.specs.{ArrayFaults.{against_at, none_out}, OwnedFound.{branched_flags, method_out}}
use Rattle.guard_analysis.proofs.array_faults.first_by.Given as goal

abbrev pub invariant-loop-i : goal.invariant-loop-i
invariant-loop-i l =
    (l.outs ≡ method_out l.p l.m l.tags.frames (branched_flags l.m) l.frames (none_out l.p) l.i)
    × ((j : ℕ) → j < l.i → against_at l.p l.m l.tags.frames l.frames l.field j ≡ None)
