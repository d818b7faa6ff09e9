use Rattle.std.proofs.Common.{◌≡◌, ◌<◌, ℕ, Some, false, slice_get}
use Rattle.machine_types.specs.PlainState.{Plain}
use Rattle.plain_orders.specs.UncaughtRuns.{has_uncaught_end}
use Rattle.outcomes.proofs.uncaught.first_uncaught.Given as goal

-- of no state so far
abbrev pub invariant-loop-k : goal.invariant-loop-k
invariant-loop-k l = (j : ℕ) (q : Plain) → j < l.k → slice_get l.found.states j ≡ Some q → has_uncaught_end q ≡ false
