use Rattle.std.proofs.Common.{List, subst, sym}
use Rattle.std.specs.List.{AllByRecursion}
use Rattle.outcomes.specs.Lists.{IsPrintedIn, IsPrinting}
use Rattle.outcomes.specs.declared.printing.Printing.{Printing}
use Rattle.outcomes.proofs.Sorted.{all_sorted, printed_sorted}
use Rattle.outcomes.proofs.printing.list_prints.Goals as goal

pub returns-clause-printed : goal.returns-clause-printed
returns-clause-printed c =
    subst (AllByRecursion (IsPrinting c.args.p.now)) (sym c.from_vec.ensures)
    (all_sorted (IsPrinting c.args.p.now) _ _ c.sort_by_key.ensures.permutation c.in_ok-printed.ensures.printed)

pub returns-clause-all : goal.returns-clause-all
returns-clause-all c = λ k q value e h.
    subst (λ (xs : List Printing). IsPrintedIn xs value) (sym c.from_vec.ensures)
    (printed_sorted _ _ value c.sort_by_key.ensures.permutation (c.in_ok-printed.ensures.all k q value e h))
