use Rattle.std.proofs.Common.{◌≡◌, ◌<◌, ℕ, Some, slice_get, false}
use Rattle.jvm_types.specs.declared.outcome.ThreadReport.{ThreadReport}
use Rattle.outcomes.specs.Comes.{is_cut_off}
use Rattle.outcomes.proofs.comparing.has_no_other_limit.Given as goal

-- no such limit ended the threads so far
abbrev pub invariant-loop-r : goal.invariant-loop-r
invariant-loop-r l = (t : ℕ) (r : ThreadReport) → t < l.r-index → slice_get l.r-items t ≡ Some r → is_cut_off r.end ≡ false
