use Rattle.std.proofs.Common.{◌≡◌, ◌++◌, ◌∙◌, ℤ, List, Some, slice_get, subst, sym, ap, arith}
use Rattle.std.proofs.lemmas.Option.{get_or_from_slice_get, slice_get_within}
use Rattle.lists.proofs.ListLaws.{same_some}
use Rattle.machine_types.specs.PlainState.{Plain, Printed}
use Rattle.plain_search.proofs.RowLists.{append_more}
use Rattle.outcomes.specs.Lists.{IsPrintedIn}
use Rattle.outcomes.specs.declared.printing.Printing.{Printing}
use Rattle.outcomes.proofs.Found.{below_next, printed_longer}
use Rattle.outcomes.proofs.printing.add_printings.Goals as goal

-- src/printing.rt:99:5
pub loop-i-preserved : goal.loop-i-preserved
loop-i-preserved c =
    let made = c.in_ok-add_printing.ensures in
    let before = c.loop-i.invariant in
    let item = c.index-prints-i.is in (
      made.printed,
      (before.1.0 ++ made.longer.0, made.longer.1 ∙ ap (λ (xs : List Printing). xs ++ made.longer.0) before.1.1 ∙ append_more c.args.printed.now.items before.1.0 made.longer.0),
      λ j x l. below_next
          (λ i. (y : Printed) → slice_get c.prints-prints.result.now i ≡ Some y → IsPrintedIn c.add_printing.new.printed.items y.value) c.loop-i.i
          (λ i m y g. printed_longer c.loop-i.printed.items made.longer.0 c.add_printing.new.printed.items y.value made.longer.1 (before.2 i y m g))
          (λ y g. subst (λ (v : ℤ). IsPrintedIn c.add_printing.new.printed.items v) (ap (λ (z : Printed). z.value) (item ∙ get_or_from_slice_get c.prints-prints.result.now c.loop-i.i y _ g)) made.there)
          j l x,
    )

-- src/printing.rt:82:1
pub returns-clause-there : goal.returns-clause-there
returns-clause-there c = λ q value e h.
    let same = same_some (sym c.at.ensures ∙ e) in
    let g = ap (λ (ys : List Printed). slice_get ys h.0) (c.prints-prints.ensures ∙ ap (λ (z : Plain). z.prints) same) ∙ h.2 in
    let w = slice_get_within c.prints-prints.result.now h.0 h.1 g in
    let m = c.loop-i-test.false in
    subst (λ (v : ℤ). IsPrintedIn c.loop-i.printed.items v) h.3 (c.loop-i.invariant.2 h.0 h.1 (omega (arith, w, m)) g)
