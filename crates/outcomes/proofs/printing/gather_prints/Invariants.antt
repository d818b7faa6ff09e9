use Rattle.std.proofs.Common.{◌≡◌, ◌<◌, ℕ, ℤ, Some, slice_get}
use Rattle.std.specs.List.{AllByRecursion}
use Rattle.machine_types.specs.PlainState.{Plain}
use Rattle.outcomes.specs.Lists.{HasPrinted, IsPrintedIn, IsPrinting}
use Rattle.outcomes.proofs.printing.gather_prints.Given as goal

-- those so far are printed numbers, and what was printed in the states so far is among them
abbrev pub invariant-loop-k : goal.invariant-loop-k
invariant-loop-k l = (printed : AllByRecursion (IsPrinting l.p) l.printed.items)
    × ((j : ℕ) (q : Plain) (value : ℤ) → j < l.k → slice_get l.found.states j ≡ Some q → HasPrinted q value → IsPrintedIn l.printed.items value)
