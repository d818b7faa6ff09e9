use Rattle.std.proofs.Common.{◌≡◌, ◌<◌, ◌++◌, ℕ, List, Some, slice_get}
use Rattle.std.specs.List.{AllByRecursion}
use Rattle.machine_types.specs.PlainState.{Printed}
use Rattle.outcomes.specs.Lists.{IsPrintedIn, IsPrinting}
use Rattle.outcomes.specs.declared.printing.Printing.{Printing}
use Rattle.outcomes.proofs.printing.add_printings.Given as goal

-- those so far are printed numbers, more than at first, and each print so far is among them
abbrev pub invariant-loop-i : goal.invariant-loop-i
invariant-loop-i l = (printed : AllByRecursion (IsPrinting l.p) l.printed.items)
    × (longer : (more : List Printing) × (l.printed.items ≡ l.fn.printed.items ++ more))
    × ((j : ℕ) (x : Printed) → j < l.i → slice_get l.prints j ≡ Some x → IsPrintedIn l.printed.items x.value)
