use Rattle.std.proofs.Common.{sym, ap, subst, ◌∙◌}
use Rattle.machine_types.specs.Threads.{Thread}
use Rattle.step_core.specs.Wanting.{IsFor}
use Rattle.table_runner.{specs.{Accessing.{CanMake, NextEvent}, Handed.steps_behind}, proofs.HandedThreads.{fits, goes_alone, goes_by, is_lawful, is_thread}}
use Rattle.table_runner.proofs.events.go.Goals as goal

pub step_or_want-requires-clause-program : goal.step_or_want-requires-clause-program
step_or_want-requires-clause-program c =
    sym (is_thread c.parts_keep_threads.ensures c.runs_have_state.ensures c.args.p.now c.args.table.now.cfg c.args.table.now.table_id.words c.args.t c.args.s.now c.requires.run c.requires.stands.behind.1).program

pub step_or_want-requires-clause-lawful : goal.step_or_want-requires-clause-lawful
step_or_want-requires-clause-lawful c =
    is_lawful c.runs_are_safe.ensures c.args.p.now c.args.table.now.cfg c.args.table.now.table_id.words c.args.t c.args.s.now c.requires.run c.requires.stands.behind.1

pub access-got-requires-clause-asks : goal.access-got-requires-clause-asks
access-got-requires-clause-asks c =
    let step = c.in-Some.ensures.step in
    let e : Thread → NextEvent = λ x. record { program = c.args.p.now; cfg = c.args.table.now.cfg; number = c.args.t; state = x } in
    let can : CanMake (e c.args.s.now) c.args.seat.now.view c.in-Some.want.access c.args.table.now.table_id.words = record { run = c.requires.run; stands = c.requires.stands; wants = step.0 } in
    subst (λ (x : Thread). CanMake (e x) c.args.seat.now.view c.in-Some.want.access c.args.table.now.table_id.words) (sym step.2) can

pub apply_effect-requires-clause-program : goal.apply_effect-requires-clause-program
apply_effect-requires-clause-program c =
    sym (ap (λ (x : Thread). x.program) c.in-Some.ensures.step.2 ∙ (is_thread c.parts_keep_threads.ensures c.runs_have_state.ensures c.args.p.now c.args.table.now.cfg c.args.table.now.table_id.words c.args.t c.args.s.now c.requires.run c.requires.stands.behind.1).program)

pub apply_effect-requires-clause-effect : goal.apply_effect-requires-clause-effect
apply_effect-requires-clause-effect c = subst (λ (x : Thread). IsFor c.args.p.now x c.in-Some.want.effect) (sym c.in-Some.ensures.step.2) c.in-Some.ensures.step.1

pub apply_effect-requires-clause-fits : goal.apply_effect-requires-clause-fits
apply_effect-requires-clause-fits c =
    let e : NextEvent = record { program = c.args.p.now; cfg = c.args.table.now.cfg; number = c.args.t; state = c.step_or_want.new.s } in
    fits c.runs_are_safe.ensures e c.args.table.now.table_id.words c.access-got.result c.requires.run c.access-got.ensures.made.happens

pub returns-in-Some-clause-goes : goal.returns-in-Some-clause-goes
returns-in-Some-clause-goes c =
    let e : NextEvent = record { program = c.args.p.now; cfg = c.args.table.now.cfg; number = c.args.t; state = c.args.s.now } in
    let step = c.in-Some.ensures.step in
    goes_by e c.args.seat.now.view c.access-got.new.seat.view c.step_or_want.new.s c.apply_effect.new.s c.in-Some.want.access c.access-got.result step.0 step.2 c.access-got.ensures.made c.apply_effect.ensures.state

pub returns-in_default-clause-goes : goal.returns-in_default-clause-goes
returns-in_default-clause-goes c =
    let e : NextEvent = record { program = c.args.p.now; cfg = c.args.table.now.cfg; number = c.args.t; state = c.args.s.now } in
    let step = c.in_default.ensures.step in
    goes_alone e c.args.seat.now.view c.step_or_want.new.s c.requires.stands.behind.1 step.0 step.1

pub returns-in-Some-clause-counted : goal.returns-in-Some-clause-counted
returns-in-Some-clause-counted c = c.access-got.ensures.counted
    ∙ ap (λ o. steps_behind o c.args.seat.now.steps) (sym c.in-Some.ensures.step.0)

pub returns-in_default-clause-counted : goal.returns-in_default-clause-counted
returns-in_default-clause-counted c = ap (λ o. steps_behind o c.args.seat.now.steps) (sym c.in_default.ensures.step.0)
