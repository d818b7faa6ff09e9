use Rattle.std.proofs.Common.{sym, ◌∙◌}
use Rattle.record_run.proofs.Begun.{ends_there, have_begun}
use Rattle.record_run.proofs.recording.run_recorded.Goals as goal

pub returns-then-not-next : goal.returns-then-not-next
returns-then-not-next g c =
    let on = c.run_alone.ensures.on in
    ends_there c.args.p.now c.args.cfg.now c.in_ok-machine.machine c.run_alone.new.self on.0 c.in_ok-machine.ensures on.1 c.run_alone.ensures.over
    c.next.new.self c.args.events c.into_rows.result c.outcome.result (sym c.next.ensures.may ∙ c.if-not-next.true) (c.next.ensures.still c.if-not-next.true) (c.into_rows.ensures ∙ c.in_ok-order.ensures.items) c.outcome.ensures

pub record_named-requires-clause-begun : goal.record_named-requires-clause-begun
record_named-requires-clause-begun g c κs within =
    let on = c.run_alone.ensures.on in
    have_begun c.args.p.now c.args.cfg.now c.in_ok-machine.machine c.run_alone.new.self on.0 c.in_ok-machine.ensures on.1 c.run_alone.ensures.over
    c.next.new.self (sym c.next.ensures.may ∙ c.if-not-next.false) c.next.ensures.next
