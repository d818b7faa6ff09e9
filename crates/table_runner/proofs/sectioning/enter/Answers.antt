use Rattle.std.proofs.Common.{rules, ◌≡◌, None, Some, refl, sym, subst, ◌∙◌}
use Rattle.machine_types.specs.{Events.wanted, HeldMonitors.held_at, Threads.Thread, declared.access.Access.TheVariants.Load}
use Rattle.step_core.specs.Progress.{got_behind}
use Rattle.step_core.specs.Sections.{entering}
use Rattle.step_core.specs.Sharing.{taking}
use Rattle.table_runner.{specs.Onward.{IsFurther, IsFurtherBy, event_on}, proofs.OnwardEvents.{access_in, has_entered, lawful_here, lawful_in, onward_then, program_here}}
use Rattle.table_runner.proofs.sectioning.enter.Goals as goal

pub may_try-may-requires : goal.may_try-may-requires
may_try-may-requires c =
    let x : Thread = entering c.args.s.now c.args.at.now.frames c.args.at.now.count c.args.monitor in
    record { frame = has_entered c.args.monitor x.frames x.roots (lawful_here c.onward_laws.ensures c.args.table.now c.args.t c.requires.stands.run x c.requires.stands.stands.behind.1).rooted.frames }

pub begin_attempt-requires-clause-program : goal.begin_attempt-requires-clause-program
begin_attempt-requires-clause-program c =
    let x : Thread = entering c.args.s.now c.args.at.now.frames c.args.at.now.count c.args.monitor in
    program_here c.onward_laws.ensures c.args.table.now c.args.t c.requires.stands.run x c.requires.stands.stands.behind.1 ∙ sym c.requires.program

pub returns-then-begin_attempt-clause-onward : goal.returns-then-begin_attempt-clause-onward
returns-then-begin_attempt-clause-onward c =
    let x : Thread = entering c.args.s.now c.args.at.now.frames c.args.at.now.count c.args.monitor in
    let unheld : held_at c.args.s.now.held c.args.monitor ≡ None = search rules in
    let wants : wanted c.args.at.now.program x x.phase ≡ Some (Load c.args.monitor) = rw (unheld, c.requires.outside) refl in
    access_in c.onward_laws.ensures c.args.table.now c.args.t c.requires.stands.run c.args.at.now.program x (got_behind c.begin_attempt.new.s c.args.at.now) (Load c.args.monitor) c.args.seat.now.view c.access_entering-got.new.seat.view c.access_entering-got.result
    c.requires.program c.requires.stands.stands wants c.access_entering-got.ensures.tells (c.begin_attempt.ensures.on c.if-begin_attempt.true)

pub take_wants-a-requires-clause-lawful : goal.take_wants-a-requires-clause-lawful
take_wants-a-requires-clause-lawful c =
    let x : Thread = entering c.args.s.now c.args.at.now.frames c.args.at.now.count c.args.monitor in
    let unheld : held_at c.args.s.now.held c.args.monitor ≡ None = search rules in
    let wants : wanted c.args.at.now.program x x.phase ≡ Some (Load c.args.monitor) = rw (unheld, c.requires.outside) refl in
    let y : Thread = taking c.args.s.now c.args.at.now.frames c.args.at.now.count c.args.monitor c.in-Some.noted in
    let v = c.access_entering-got.new.seat.view in
    let first : IsFurther (event_on c.args.table.now c.args.t x) c.args.seat.now.view y v = access_in c.onward_laws.ensures c.args.table.now c.args.t c.requires.stands.run c.args.at.now.program x y (Load c.args.monitor) c.args.seat.now.view v c.access_entering-got.result
    c.requires.program c.requires.stands.stands wants c.access_entering-got.ensures.tells c.in-Some.ensures.on in
    lawful_in c.onward_laws.ensures c.args.table.now c.args.t c.requires.stands.run c.args.at.now.program y c.requires.program first.later.stands.behind.1

pub access_taking-found-requires-clause-asks : goal.access_taking-found-requires-clause-asks
access_taking-found-requires-clause-asks c =
    let x : Thread = entering c.args.s.now c.args.at.now.frames c.args.at.now.count c.args.monitor in
    let unheld : held_at c.args.s.now.held c.args.monitor ≡ None = search rules in
    let wants : wanted c.args.at.now.program x x.phase ≡ Some (Load c.args.monitor) = rw (unheld, c.requires.outside) refl in
    let y : Thread = taking c.args.s.now c.args.at.now.frames c.args.at.now.count c.args.monitor c.in-Some.noted in
    let v = c.access_entering-got.new.seat.view in
    let first : IsFurther (event_on c.args.table.now c.args.t x) c.args.seat.now.view y v = access_in c.onward_laws.ensures c.args.table.now c.args.t c.requires.stands.run c.args.at.now.program x y (Load c.args.monitor) c.args.seat.now.view v c.access_entering-got.result
    c.requires.program c.requires.stands.stands wants c.access_entering-got.ensures.tells c.in-Some.ensures.on in
    record { run = c.requires.stands.run; stands = first.later.stands; wants = c.take_wants-a.ensures }

pub take_by-requires-clause-program : goal.take_by-requires-clause-program
take_by-requires-clause-program c =
    let x : Thread = entering c.args.s.now c.args.at.now.frames c.args.at.now.count c.args.monitor in
    program_here c.onward_laws.ensures c.args.table.now c.args.t c.requires.stands.run x c.requires.stands.stands.behind.1 ∙ sym c.requires.program

pub take_by-requires-clause-lawful : goal.take_by-requires-clause-lawful
take_by-requires-clause-lawful c =
    let x : Thread = entering c.args.s.now c.args.at.now.frames c.args.at.now.count c.args.monitor in
    let unheld : held_at c.args.s.now.held c.args.monitor ≡ None = search rules in
    let wants : wanted c.args.at.now.program x x.phase ≡ Some (Load c.args.monitor) = rw (unheld, c.requires.outside) refl in
    let y : Thread = taking c.args.s.now c.args.at.now.frames c.args.at.now.count c.args.monitor c.in-Some.noted in
    let v = c.access_entering-got.new.seat.view in
    let first : IsFurther (event_on c.args.table.now c.args.t x) c.args.seat.now.view y v = access_in c.onward_laws.ensures c.args.table.now c.args.t c.requires.stands.run c.args.at.now.program x y (Load c.args.monitor) c.args.seat.now.view v c.access_entering-got.result
    c.requires.program c.requires.stands.stands wants c.access_entering-got.ensures.tells c.in-Some.ensures.on in
    lawful_in c.onward_laws.ensures c.args.table.now c.args.t c.requires.stands.run c.args.at.now.program y c.requires.program first.later.stands.behind.1

pub returns-then-take_by-clause-onward : goal.returns-then-take_by-clause-onward
returns-then-take_by-clause-onward c =
    let x : Thread = entering c.args.s.now c.args.at.now.frames c.args.at.now.count c.args.monitor in
    let unheld : held_at c.args.s.now.held c.args.monitor ≡ None = search rules in
    let wants : wanted c.args.at.now.program x x.phase ≡ Some (Load c.args.monitor) = rw (unheld, c.requires.outside) refl in
    let y : Thread = taking c.args.s.now c.args.at.now.frames c.args.at.now.count c.args.monitor c.in-Some.noted in
    let v = c.access_entering-got.new.seat.view in
    let first : IsFurther (event_on c.args.table.now c.args.t x) c.args.seat.now.view y v = access_in c.onward_laws.ensures c.args.table.now c.args.t c.requires.stands.run c.args.at.now.program x y (Load c.args.monitor) c.args.seat.now.view v c.access_entering-got.result
    c.requires.program c.requires.stands.stands wants c.access_entering-got.ensures.tells c.in-Some.ensures.on in
    let z : Thread = got_behind c.take_by.new.s c.args.at.now in
    let w = c.access_taking-found.new.seat.view in
    let second : IsFurther (event_on c.args.table.now c.args.t y) v z w = access_in c.onward_laws.ensures c.args.table.now c.args.t c.requires.stands.run c.args.at.now.program y z c.take_wants-a.result v w c.access_taking-found.result
    c.requires.program first.later.stands c.take_wants-a.ensures c.access_taking-found.ensures.tells (c.take_by.ensures.on c.if-take_by.true) in
    onward_then (event_on c.args.table.now c.args.t x) y z c.args.seat.now.view v w first second

pub returns-clause-onward : goal.returns-clause-onward
returns-clause-onward c =
    let x : Thread = entering c.args.s.now c.args.at.now.frames c.args.at.now.count c.args.monitor in
    let unheld : held_at c.args.s.now.held c.args.monitor ≡ None = search rules in
    let wants : wanted c.args.at.now.program x x.phase ≡ Some (Load c.args.monitor) = rw (unheld, c.requires.outside) refl in
    let y : Thread = taking c.args.s.now c.args.at.now.frames c.args.at.now.count c.args.monitor c.in-Some.noted in
    let v = c.access_entering-got.new.seat.view in
    let first : IsFurther (event_on c.args.table.now c.args.t x) c.args.seat.now.view y v = access_in c.onward_laws.ensures c.args.table.now c.args.t c.requires.stands.run c.args.at.now.program x y (Load c.args.monitor) c.args.seat.now.view v c.access_entering-got.result
    c.requires.program c.requires.stands.stands wants c.access_entering-got.ensures.tells c.in-Some.ensures.on in
    let same : c.take_by.new.s ≡ c.args.s.now = c.take_by.ensures.off c.if-take_by.false in
    let by : IsFurtherBy (event_on c.args.table.now c.args.t x) c.args.seat.now.view y c.access_taking-found.result c.access_taking-found.new.seat.view = record { seen = v; onward = first; wants = refl; made = c.access_taking-found.ensures.tells } in
    subst (λ (s : Thread). IsFurtherBy (event_on c.args.table.now c.args.t x) c.args.seat.now.view (taking s c.args.at.now.frames c.args.at.now.count c.args.monitor c.in-Some.noted) c.access_taking-found.result c.access_taking-found.new.seat.view) (sym same) by
