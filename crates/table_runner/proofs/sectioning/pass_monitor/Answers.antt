use Rattle.machine_types.specs.Threads.{Thread}
use Rattle.step_core.specs.Progress.{got_to}
use Rattle.step_core.specs.Sections.{entering}
use Rattle.step_core.specs.Sharing.{leaving_at}
use Rattle.table_runner.{specs.Onward.{IsFurther, event_on, found_by_section, thread_back}, proofs.OnwardEvents.{alone_in, onward_then_if}}
use Rattle.table_runner.proofs.sectioning.pass_monitor.Goals as goal

pub enter-requires-clause-stands : goal.enter-requires-clause-stands
enter-requires-clause-stands c =
    let x : Thread = got_to c.args.s.now c.args.at.now in
    let v = c.args.seat.now.view in
    let y : Thread = entering c.args.s.now c.begin_entry.new.self.frames c.begin_entry.new.self.count c.in-Some.monitor in
    let first : IsFurther (event_on c.args.table.now c.args.t x) v y v = alone_in c.onward_laws.ensures c.args.table.now c.args.t c.requires.stands.run c.args.at.now.program x y v c.requires.program c.requires.stands.stands c.in-Some.ensures.on.wants c.in-Some.ensures.on.on in
    record { at = c.requires.stands.at; run = c.requires.stands.run; stands = first.later.stands }

pub returns-in-Some-clause-onward : goal.returns-in-Some-clause-onward
returns-in-Some-clause-onward c =
    let x : Thread = got_to c.args.s.now c.args.at.now in
    let v = c.args.seat.now.view in
    let y : Thread = entering c.args.s.now c.begin_entry.new.self.frames c.begin_entry.new.self.count c.in-Some.monitor in
    let first : IsFurther (event_on c.args.table.now c.args.t x) v y v = alone_in c.onward_laws.ensures c.args.table.now c.args.t c.requires.stands.run c.args.at.now.program x y v c.requires.program c.requires.stands.stands c.in-Some.ensures.on.wants c.in-Some.ensures.on.on in
    onward_then_if (event_on c.args.table.now c.args.t x) y (thread_back c.enter.new.s c.begin_entry.new.self (leaving_at c.enter.new.s c.begin_entry.new.self c.args.place.now) c.enter.result) (found_by_section c.enter.result) v v c.enter.new.seat.view first c.enter.ensures.onward
