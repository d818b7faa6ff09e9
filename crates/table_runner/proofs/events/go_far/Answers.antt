use Rattle.std.proofs.Common.{◌<◌, sym, subst, ◌∙◌, arith}
use Rattle.checked_program.specs.MarkedProgram.{MarkedProgram}
use Rattle.machine_types.specs.Threads.{Thread}
use Rattle.laws_states.specs.WorkLeft.{work_left}
use Rattle.table_runner.{specs.{Accessing.{CanRun, IsBehindView, NextEvent}, Going.IsLaterThread}, proofs.{HandedThreads.is_lawful, ManyEvents.one_event}}
use Rattle.table_runner.proofs.events.go_far.Goals as goal

pub run_on-requires-clause-stands : goal.run_on-requires-clause-stands
run_on-requires-clause-stands c =
    let e : MarkedProgram → Thread → NextEvent = λ p x. record { program = p; cfg = c.args.table.now.cfg; number = c.args.t; state = x } in
    let on : IsLaterThread (e c.args.p.now c.args.s.now) c.args.seat.now.view c.go.new.s c.go.new.seat.view = one_event c.given_is_kept.ensures (e c.args.p.now c.args.s.now) c.args.seat.now.view c.go.new.seat.view c.go.new.s c.requires.stands c.go.ensures.goes in record {
      at = c.go.ensures.seat.0 ∙ c.requires.table;
      run = subst (λ p. CanRun p c.args.table.now.cfg c.args.table.now.table_id.words) (sym c.requires.program) c.requires.run;
      stands = subst (λ p. IsBehindView (e p c.go.new.s) c.go.new.seat.view) (sym c.requires.program) on.stands;
    }

pub returns-clause-less : goal.returns-clause-less
returns-clause-less c =
    let lawful = is_lawful c.runs_are_safe.ensures c.args.p.now c.args.table.now.cfg c.args.table.now.table_id.words c.args.t c.args.s.now c.requires.run c.requires.stands.behind.1 in
    let goes = c.go.ensures.goes in
    let one : work_left c.go.new.s < work_left c.args.s.now = subst (λ (x : Thread). work_left x < work_left c.args.s.now) (sym goes.state)
    (c.events_lessen_work.ensures c.args.p.now c.args.s.now goes.got c.requires.run.marked lawful c.requires.live) in
    omega (arith, one, c.run_on.ensures.onward.less)
