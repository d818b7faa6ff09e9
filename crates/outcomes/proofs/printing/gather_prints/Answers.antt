use Rattle.std.proofs.Common.{◌≡◌, ℤ, Some, slice_get, arith}
use Rattle.std.proofs.lemmas.Option.{slice_get_within}
use Rattle.machine_types.specs.PlainState.{Plain}
use Rattle.outcomes.specs.Lists.{HasPrinted, IsPrintedIn}
use Rattle.outcomes.proofs.Found.{below_next, printed_longer}
use Rattle.outcomes.proofs.printing.gather_prints.Goals as goal

-- src/printing.rt:118:5
pub loop-k-preserved : goal.loop-k-preserved
loop-k-preserved c =
    let more = c.in_ok-add_printings.ensures.longer in (
      c.in_ok-add_printings.ensures.printed,
      λ j q value l. below_next
          (λ i. (z : Plain) (v : ℤ) → slice_get c.args.found.now.states i ≡ Some z → HasPrinted z v → IsPrintedIn c.add_printings.new.printed.items v) c.loop-k.k
          (λ i m z v e h. printed_longer c.loop-k.printed.items more.0 c.add_printings.new.printed.items v more.1 (c.loop-k.invariant.1 i z v m e h))
          c.in_ok-add_printings.ensures.there j l q value,
    )

-- src/printing.rt:106:1
pub returns-clause-all : goal.returns-clause-all
returns-clause-all c = λ k q value e h.
    let w = slice_get_within c.args.found.now.states k q e in
    let m = c.loop-k-test.false in
    let n = c.len-k-end.ensures in
    c.loop-k.invariant.1 k q value (omega (arith, w, m, n)) e h
