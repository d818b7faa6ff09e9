use Rattle.std.proofs.Common.{◌≡◌, ◌∙◌, Some, false, slice_get, sym, ap, arith}
use Rattle.std.proofs.lemmas.Option.{slice_get_within}
use Rattle.lists.proofs.ListLaws.{same_some}
use Rattle.machine_types.specs.PlainState.{Plain}
use Rattle.plain_orders.specs.UncaughtRuns.{has_uncaught_end}
use Rattle.outcomes.proofs.Found.{below_next}
use Rattle.outcomes.proofs.uncaught.first_uncaught.Goals as goal

pub loop-k-preserved : goal.loop-k-preserved
loop-k-preserved c = λ j q l e. below_next
    (λ i. (z : Plain) → slice_get c.args.found.now.states i ≡ Some z → has_uncaught_end z ≡ false) c.loop-k.k
    (λ i m z g. c.loop-k.invariant i z m g)
    (λ z g. ap has_uncaught_end (same_some (sym g ∙ c.at.ensures)) ∙ sym c.has_uncaught_end.ensures ∙ c.if-has_uncaught_end.false)
    j l q e

pub returns-then-has_uncaught_end : goal.returns-then-has_uncaught_end
returns-then-has_uncaught_end c =
    let m = c.loop-k-test.true in
    let n = c.len-k-end.ensures in (
      omega (arith, m, n),
      λ q e. ap has_uncaught_end (same_some (sym e ∙ c.at.ensures)) ∙ sym c.has_uncaught_end.ensures ∙ c.if-has_uncaught_end.true,
    )

pub returns : goal.returns
returns c = λ k q e.
    let w = slice_get_within c.args.found.now.states k q e in
    let m = c.loop-k-test.false in
    let n = c.len-k-end.ensures in
    c.loop-k.invariant k q (omega (arith, w, m, n)) e
