use Rattle.std.proofs.Common.{◌≡◌, ◌+◌, IsSome, refl, sym, subst, ◌∙◌}
use Rattle.machine_types.specs.{Threads.Thread}
use Rattle.step_core.specs.Progress.{got_behind, got_to}
use Rattle.step_core.specs.Sharing.{IsSharedExit, frames_leaving, leaving_at}
use Rattle.table_runner.{specs.Onward.{IsFurther, IsFurtherBy, event_on}, proofs.OnwardEvents.{access_in, alone_in, lawful_in, onward_then}}
use Rattle.table_runner.proofs.sectioning.leave.Goals as goal

pub exit_wants-requires-clause-lawful : goal.exit_wants-requires-clause-lawful
exit_wants-requires-clause-lawful c = lawful_in c.onward_laws.ensures c.args.table.now c.args.t c.requires.stands.run c.args.at.now.program (got_to c.args.s.now c.args.at.now) c.requires.program c.requires.stands.stands.behind.1

pub access_leaving-got-requires-clause-asks : goal.access_leaving-got-requires-clause-asks
access_leaving-got-requires-clause-asks c =
    let x : Thread = got_to c.args.s.now c.args.at.now in
    let v = c.args.seat.now.view in
    let exit : IsSharedExit c.args.s.now c.args.at.now c.args.place.now c.in-Some.exit = c.in-Some.ensures in
    let y : Thread = leaving_at c.args.s.now c.args.at.now c.args.place.now c.in-Some.exit.monitor c.in-Some.exit.after in
    let first : IsFurther (event_on c.args.table.now c.args.t x) v y v = alone_in c.onward_laws.ensures c.args.table.now c.args.t c.requires.stands.run c.args.at.now.program x y v c.requires.program c.requires.stands.stands exit.wants exit.on in
    record { run = c.requires.stands.run; stands = first.later.stands; wants = exit.leaves }

pub leave_by-requires-clause-lawful : goal.leave_by-requires-clause-lawful
leave_by-requires-clause-lawful c = lawful_in c.onward_laws.ensures c.args.table.now c.args.t c.requires.stands.run c.args.at.now.program (got_to c.args.s.now c.args.at.now) c.requires.program c.requires.stands.stands.behind.1

pub returns-then-leave_by-clause-onward : goal.returns-then-leave_by-clause-onward
returns-then-leave_by-clause-onward c =
    let x : Thread = got_to c.args.s.now c.args.at.now in
    let v = c.args.seat.now.view in
    let exit : IsSharedExit c.args.s.now c.args.at.now c.args.place.now c.in-Some.exit = c.in-Some.ensures in
    let y : Thread = leaving_at c.args.s.now c.args.at.now c.args.place.now c.in-Some.exit.monitor c.in-Some.exit.after in
    let first : IsFurther (event_on c.args.table.now c.args.t x) v y v = alone_in c.onward_laws.ensures c.args.table.now c.args.t c.requires.stands.run c.args.at.now.program x y v c.requires.program c.requires.stands.stands exit.wants exit.on in
    let z : Thread = got_behind c.leave_by.new.s c.go_behind.new.self in
    let w = c.access_leaving-got.new.seat.view in
    let left = c.leave_by.ensures.on c.if-leave_by.true (frames_leaving c.args.place.now c.in-Some.exit.after c.args.at.now.frames) (c.args.at.now.count + 1) c.in-Some.exit.after in
    let second : IsFurther (event_on c.args.table.now c.args.t y) v z w = access_in c.onward_laws.ensures c.args.table.now c.args.t c.requires.stands.run c.args.at.now.program y z c.in-Some.exit.access v w c.access_leaving-got.result
    c.requires.program first.later.stands exit.leaves c.access_leaving-got.ensures.tells (c.go_behind.ensures.on ∙ left) in
    onward_then (event_on c.args.table.now c.args.t x) y z v v w first second

pub returns-clause-onward : goal.returns-clause-onward
returns-clause-onward c =
    let x : Thread = got_to c.args.s.now c.args.at.now in
    let v = c.args.seat.now.view in
    let exit : IsSharedExit c.args.s.now c.args.at.now c.args.place.now c.in-Some.exit = c.in-Some.ensures in
    let y : Thread = leaving_at c.args.s.now c.args.at.now c.args.place.now c.in-Some.exit.monitor c.in-Some.exit.after in
    let first : IsFurther (event_on c.args.table.now c.args.t x) v y v = alone_in c.onward_laws.ensures c.args.table.now c.args.t c.requires.stands.run c.args.at.now.program x y v c.requires.program c.requires.stands.stands exit.wants exit.on in
    let same : c.leave_by.new.s ≡ c.args.s.now = c.leave_by.ensures.off c.if-leave_by.false in
    let by : IsFurtherBy (event_on c.args.table.now c.args.t x) v y c.access_leaving-got.result c.access_leaving-got.new.seat.view = record { seen = v; onward = first; wants = subst (λ o. IsSome o) (sym exit.leaves) refl; made = c.access_leaving-got.ensures.tells } in
    subst (λ (s : Thread). IsFurtherBy (event_on c.args.table.now c.args.t x) v (leaving_at s c.args.at.now c.args.place.now c.in-Some.exit.monitor c.in-Some.exit.after) c.access_leaving-got.result c.access_leaving-got.new.seat.view) (sym same) by
