use Rattle.std.proofs.Common.{sym, ◌∙◌}
use Rattle.machine_types.specs.PlainState.{Holding}
use Rattle.plain_threads.proofs.HoldingLaws.{holding_found, no_holding}
use Rattle.plain_threads.proofs.holding.Holdings.set.Goals as goal

pub returns : goal.returns
returns c =
    let e : Holding = record { monitor = c.args.m; holder = c.args.t; depth = c.args.depth } in
    let found = rw c.as_slice.ensures.value at (sym c.place_of.ensures ∙ c.in-Some.is) in
    rw (c.of.ensures, ← c.self.view_is) (holding_found e c.self.inside.holdings.items c.in-Some.i found)

pub unreachable-requires : goal.unreachable-requires
unreachable-requires c =
    let none = rw c.as_slice.ensures.value at (sym c.place_of.ensures ∙ c.in-None.is) in
    no_holding c.args.m c.self.inside.holdings.items none (rw (← c.self.view_is) at c.requires)
