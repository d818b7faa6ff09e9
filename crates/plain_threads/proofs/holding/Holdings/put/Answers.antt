use Rattle.std.proofs.Common.{sym, ◌∙◌}
use Rattle.machine_types.specs.PlainState.{Holding}
use Rattle.plain_threads.proofs.HoldingLaws.{holding_found, holding_added}
use Rattle.plain_threads.proofs.holding.Holdings.put.Goals as goal

pub returns-in-Some-clause-ok : goal.returns-in-Some-clause-ok
returns-in-Some-clause-ok c =
    let e : Holding = record { monitor = c.args.m; holder = c.args.t; depth = c.args.depth } in
    let found = rw c.as_slice.ensures.value at (sym c.place_of.ensures ∙ c.in-Some.is) in
    rw (c.of.ensures, ← c.self.view_is) (holding_found e c.self.inside.holdings.items c.in-Some.i found)

pub returns-in_ok-push-in-None-clause-ok : goal.returns-in_ok-push-in-None-clause-ok
returns-in_ok-push-in-None-clause-ok c =
    let e : Holding = record { monitor = c.args.m; holder = c.args.t; depth = c.args.depth } in
    let none = rw c.as_slice.ensures.value at (sym c.place_of.ensures ∙ c.in-None.is) in
    rw (c.in_ok-push-in-None.ensures.items, c.of-in-None.ensures, ← c.self.view_is) (holding_added e c.self.inside.holdings.items none)
