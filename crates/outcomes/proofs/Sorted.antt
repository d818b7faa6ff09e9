-- Lists in another order.
use Rattle.std.proofs.Common.{ℤ, List, sym}
use Rattle.std.specs.List.{AllByRecursion}
use Rattle.std.specs.List.Sorted.{IsPermutation}
use Rattle.std.proofs.lemmas.List.Elements.{All-from_recursion, recursion_from_All}
use Rattle.std.proofs.lemmas.List.Sorted.{All-permutation, Contains-permutation}
use Rattle.jvm_types.specs.declared.program.Program.{Program}
use Rattle.machine_types.specs.PlainState.{Plain}
use Rattle.plain_search.proofs.RowLists.{got_index}
use Rattle.outcomes.specs.Lists.{IsListedIn, IsPrintedIn}
use Rattle.outcomes.specs.declared.listing.Listed.{Listed}
use Rattle.outcomes.specs.declared.printing.Printing.{Printing}
use Rattle.outcomes.proofs.Found.{is_there}

pub all_sorted : {X : Type 0} (P : X → Type 0) (xs ys : List X) → IsPermutation xs ys → AllByRecursion P xs → AllByRecursion P ys
all_sorted P xs ys same all = recursion_from_All P ys (All-permutation P xs ys same (All-from_recursion P xs all))

pub listed_sorted : (p : Program) (xs ys : List Listed) (q : Plain) → IsPermutation xs ys → IsListedIn p xs q → IsListedIn p ys q
listed_sorted p xs ys q same v =
    let there = Contains-permutation xs ys v.1 same (is_there xs v.0 v.1 v.2) in
    (there.0, v.1, got_index ys there.0 v.1 there.1 (sym there.2), v.3)

pub printed_sorted : (xs ys : List Printing) (value : ℤ) → IsPermutation xs ys → IsPrintedIn xs value → IsPrintedIn ys value
printed_sorted xs ys value same v =
    let there = Contains-permutation xs ys v.1 same (is_there xs v.0 v.1 v.2) in
    (there.0, v.1, got_index ys there.0 v.1 there.1 (sym there.2), v.3)
