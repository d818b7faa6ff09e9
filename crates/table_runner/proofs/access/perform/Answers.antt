use Rattle.std.proofs.Common.{[]}
use Rattle.machine_types.specs.declared.access.Access.TheVariants.{Load, Store, Cas, Add, Or, And, Rest}
use Rattle.table_runner.proofs.Accesses.{allows_as, loads, stores, exchanges, adds, ors, ands, rests}
use Rattle.table_runner.proofs.access.perform.Goals as goal

pub load-requires : goal.load-requires
load-requires g c =
    let table = c.args.table.now in
    let can = allows_as c.runs_are_safe.ensures g.B.Making.event table.program table.cfg c.args.a (Load c.in-Load.w) c.in-Load.w _ _ table.table_id.slots table.table_id.words c.args.seat.now.id (c.args.seat.now.view, []) c.in-Load.is (loads c.in-Load.w) c.requires.run c.requires.asks in
    record { at = c.requires.table; inside = can.0; allowed = can.1 }

pub swap-requires : goal.swap-requires
swap-requires g c =
    let table = c.args.table.now in
    let can = allows_as c.runs_are_safe.ensures g.B.Making.event table.program table.cfg c.args.a (Store c.in-Store.w c.in-Store.v) c.in-Store.w _ _ table.table_id.slots table.table_id.words c.args.seat.now.id (c.args.seat.now.view, []) c.in-Store.is (stores c.in-Store.w c.in-Store.v) c.requires.run c.requires.asks in
    record { at = c.requires.table; inside = can.0; allowed = can.1 }

pub compare_exchange-requires : goal.compare_exchange-requires
compare_exchange-requires g c =
    let table = c.args.table.now in
    let can = allows_as c.runs_are_safe.ensures g.B.Making.event table.program table.cfg c.args.a (Cas c.in-Cas.w c.in-Cas.is' c.in-Cas.v) c.in-Cas.w _ _ table.table_id.slots table.table_id.words c.args.seat.now.id (c.args.seat.now.view, []) c.in-Cas.is (exchanges c.in-Cas.w c.in-Cas.is' c.in-Cas.v) c.requires.run c.requires.asks in
    record { at = c.requires.table; inside = can.0; allowed = can.1 }

pub fetch_add-requires : goal.fetch_add-requires
fetch_add-requires g c =
    let table = c.args.table.now in
    let can = allows_as c.runs_are_safe.ensures g.B.Making.event table.program table.cfg c.args.a (Add c.in-Add.w c.in-Add.v) c.in-Add.w _ _ table.table_id.slots table.table_id.words c.args.seat.now.id (c.args.seat.now.view, []) c.in-Add.is (adds c.in-Add.w c.in-Add.v) c.requires.run c.requires.asks in
    record { at = c.requires.table; inside = can.0; allowed = can.1 }

pub fetch_or-requires : goal.fetch_or-requires
fetch_or-requires g c =
    let table = c.args.table.now in
    let can = allows_as c.runs_are_safe.ensures g.B.Making.event table.program table.cfg c.args.a (Or c.in-Or.w c.in-Or.v) c.in-Or.w _ _ table.table_id.slots table.table_id.words c.args.seat.now.id (c.args.seat.now.view, []) c.in-Or.is (ors c.in-Or.w c.in-Or.v) c.requires.run c.requires.asks in
    record { at = c.requires.table; inside = can.0; allowed = can.1 }

pub fetch_and-requires : goal.fetch_and-requires
fetch_and-requires g c =
    let table = c.args.table.now in
    let can = allows_as c.runs_are_safe.ensures g.B.Making.event table.program table.cfg c.args.a (And c.in-And.w c.in-And.v) c.in-And.w _ _ table.table_id.slots table.table_id.words c.args.seat.now.id (c.args.seat.now.view, []) c.in-And.is (ands c.in-And.w c.in-And.v) c.requires.run c.requires.asks in
    record { at = c.requires.table; inside = can.0; allowed = can.1 }

pub load-nothing-requires : goal.load-nothing-requires
load-nothing-requires g c =
    let table = c.args.table.now in
    let can = allows_as c.runs_are_safe.ensures g.B.Making.event table.program table.cfg c.args.a Rest 0 _ _ table.table_id.slots table.table_id.words c.args.seat.now.id (c.args.seat.now.view, []) c.in-Rest.is rests c.requires.run c.requires.asks in
    record { at = c.requires.table; inside = can.0; allowed = can.1 }
