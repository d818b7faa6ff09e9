-- The print lines of a report are the prints of the plain run, in its order.
use Rattle.std.{proofs.{Common.{◌≡◌, ℕ, ℤ, List, [], ◌∷◌, ◌++◌, map, Some, suc, zero, refl, ap, sym, subst, ◌∙◌, Contains, slice_get}, lemmas.List.length-map}, specs.Fmt.signed_decimal}
use Rattle.std.proofs.lemmas.List.Folds.{flat_map-map}
use Rattle.jvm_types.specs.declared.outcome.Outcome.{Outcome}
use Rattle.machine_types.specs.{Faithful.PrintsFit, PlainState.{Plain, Printed}}
use Rattle.run_texts.specs.Report.{counts_lines, end_lines, line, print_lines, report_text}
use Rattle.solero.{specs.Answer.{plain_print_lines, text_with_prints}, proofs.PlacedPrints.lines_in_order}

-- a value at a place is that of a print there
print_at : (prints : List Printed) (i : ℕ) (value : ℤ) → slice_get (map (λ (x : Printed). x.value) prints) i ≡ Some value → (x : Printed) × (slice_get prints i ≡ Some x) × (x.value ≡ value)
print_at [] i value is = absurd cc
print_at (x ∷ prints) zero value is = (x, refl, cc)
print_at (x ∷ prints) (suc i) value is = print_at prints i value is

lines_of_run : (o : Outcome) (q : Plain) → PrintsFit o q → print_lines o.threads ≡ plain_print_lines q.prints
lines_of_run o q fit =
    let values = map (λ (x : Printed). x.value) q.prints in
    lines_in_order o.threads values
    (λ i value is.
    let x = print_at q.prints i value is in
    let at = fit.each i x.0 x.1 in
    (x.0.thread, at.0, at.1, subst (λ (z : ℤ). Contains at.0.prints (record { ticket = i; value = z })) x.2 at.2))
    (fit.no_more ∙ sym (length-map q.prints (λ (x : Printed). x.value)))
    ∙ flat_map-map (λ value. line (signed_decimal value)) (λ (x : Printed). x.value) q.prints

pub prints_stand : (o : Outcome) (q : Plain) → PrintsFit o q → report_text o ≡ text_with_prints q.prints o
prints_stand o q fit = ap (λ lines. lines ++ end_lines o.threads o.done ++ counts_lines 0 o.threads) (lines_of_run o q fit)
