use Rattle.std.proofs.Common.{sym, ◌∙◌}
use Rattle.plain_threads.proofs.HoldingLaws.{nothing_to_remove, removed_one}
use Rattle.plain_threads.proofs.holding.Holdings.remove.Goals as goal

pub loop-i-preserved : goal.loop-i-preserved
loop-i-preserved c =
    let found = rw c.as_slice.ensures.value at (sym c.place_of.ensures ∙ c.in-Some.is) in
    rw c.remove-gone.ensures.items (removed_one c.args.m c.loop-i.self-inside.holdings.items c.in-Some.i c.remove-gone.result found ∙ c.loop-i.invariant)

pub returns-in-None : goal.returns-in-None
returns-in-None c =
    let none = rw c.as_slice.ensures.value at (sym c.place_of.ensures ∙ c.in-None.is) in
    nothing_to_remove c.args.m c.loop-i.self-inside.holdings.items none ∙ c.loop-i.invariant
