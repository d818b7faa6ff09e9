use Rattle.std.proofs.Common.{◌≡◌, ◌<◌, ℕ, Some, slice_get}
use Rattle.std.specs.List.{AllByRecursion}
use Rattle.machine_types.specs.PlainState.{Plain}
use Rattle.outcomes.specs.Lists.{IsListedIn, IsListedOutcome}
use Rattle.outcomes.proofs.listing.gather_rests.Given as goal

-- those so far are outcomes, and each state so far shows what one of them does
abbrev pub invariant-loop-k : goal.invariant-loop-k
invariant-loop-k l = (listed : AllByRecursion (IsListedOutcome l.p l.cfg) l.listed.items)
    × ((j k : ℕ) (q : Plain) → j < l.k-index → slice_get l.k-items j ≡ Some k → slice_get l.found.states k ≡ Some q → IsListedIn l.p.program l.listed.items q)
