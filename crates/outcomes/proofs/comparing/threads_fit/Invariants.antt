use Rattle.std.proofs.Common.{◌≡◌, ◌<◌, ℕ, Some, slice_get}
use Rattle.jvm_types.specs.declared.outcome.ThreadReport.{ThreadReport}
use Rattle.machine_types.specs.Faithful.{EndFits}
use Rattle.machine_types.specs.PlainSteps.{first_end}
use Rattle.outcomes.proofs.comparing.threads_fit.Given as goal

-- each thread so far fits
abbrev pub invariant-loop-t : goal.invariant-loop-t
invariant-loop-t l = (u : ℕ) (r : ThreadReport) → u < l.t → slice_get l.threads u ≡ Some r → EndFits r.end (first_end l.q.state u)
