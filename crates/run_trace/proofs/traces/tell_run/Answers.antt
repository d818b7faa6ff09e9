use Rattle.std.{proofs.Common.{◌≡◌, ◌++◌, ℕ, List, None, subst}, specs.Option.option_map}
use Rattle.machine_types.specs.Schedules.{First, turn_at}
use Rattle.std.proofs.lemmas.Result.{err_from_is_err_and}
use Rattle.run_trace.{specs.Traces.{IsCutShort, WalksOn}, proofs.{Walks.whole, Fronts.{unended, unreported, unstarted, unwalked}}}
use Rattle.run_trace.specs.declared.traces.TraceError.TheVariants.{Memory}
use Rattle.run_trace.proofs.traces.tell_run.Goals as goal

pub returns : goal.returns
returns g c =
    let p = c.args.p.now in
    let names = c.args.names.now in
    let part = c.args.part in
    let m = c.in_ok-trace.trace in
    let n = c.tell_all.new.trace in
    let told = c.tell_all.new.sink in
    let late = c.write_text.new.sink in
    let now = c.tell_report.new.sink in
    let on = subst (λ (ts : List ℕ). WalksOn p ts names part m (turn_at (First ts) m.machine.core) (g.K.Sink.text c.args.sink.now) (g.K.Sink.faults c.args.sink.now) n None (g.K.Sink.text told) (g.K.Sink.faults told)) c.as_slice.ensures c.in_ok-tell_all.ensures in
    let ended = subst (λ (ends : List ℕ). g.K.Sink.text late ≡ option_map (λ t. t ++ ends) (g.K.Sink.text told)) c.as_slice-2.ensures.value c.in_ok-write_text.ensures.1 in
    whole p c.args.cfg.now c.args.order.now names part (g.K.Sink.text c.args.sink.now) (g.K.Sink.text told) (g.K.Sink.text late) (g.K.Sink.text now) (g.K.Sink.faults c.args.sink.now) (g.K.Sink.faults told) (g.K.Sink.faults late) (g.K.Sink.faults now)
    m n c.outcome-outcome.result c.in_ok-trace.ensures.ok on ended c.in_ok-write_text.ensures.0 c.outcome-outcome.ensures c.in_ok-tell_report.ensures.1 c.in_ok-tell_report.ensures.0

pub returns-in_err-trace : goal.returns-in_err-trace
returns-in_err-trace g c =
    let p = err_from_is_err_and c.from_residual.result c.from_residual.ensures.1 in
    let none = c.in_err-trace.ensures.err in
    let e : c.in_err-trace.field-0.0 ≡ Memory = cc in
    rw (p.1, p.2) (unstarted c.args.p.now c.args.cfg.now c.args.order.now c.args.names.now c.args.part c.every_order_has_run.ensures c.workers-workers.ensures.marked c.have_width.ensures c.requires
    (g.K.Sink.text c.args.sink.now) (g.K.Sink.faults c.args.sink.now) c.in_err-trace.field-0.0 e)

pub returns-in_err-tell_all : goal.returns-in_err-tell_all
returns-in_err-tell_all g c =
    let p = err_from_is_err_and c.from_residual-in_err-tell_all.result c.from_residual-in_err-tell_all.ensures.1 in
    let m = c.in_ok-trace.trace in
    let broken = subst (λ (ts : List ℕ). IsCutShort c.args.p.now ts c.args.names.now c.args.part m (turn_at (First ts) m.machine.core) (g.K.Sink.text c.args.sink.now) (g.K.Sink.faults c.args.sink.now) (g.K.Sink.text c.tell_all.new.sink) (g.K.Sink.faults c.tell_all.new.sink) c.in_err-tell_all.field-0.0) c.as_slice.ensures c.in_err-tell_all.ensures in
    rw (p.1, p.2) (unwalked c.args.p.now c.args.cfg.now c.args.order.now c.args.names.now c.args.part c.every_order_has_run.ensures c.workers-workers.ensures.marked c.have_width.ensures c.requires
    (g.K.Sink.text c.args.sink.now) (g.K.Sink.text c.tell_all.new.sink) (g.K.Sink.faults c.args.sink.now) (g.K.Sink.faults c.tell_all.new.sink) m c.in_err-tell_all.field-0.0 c.in_ok-trace.ensures.ok broken)

pub returns-in_err-write_text : goal.returns-in_err-write_text
returns-in_err-write_text g c =
    let p = err_from_is_err_and c.from_residual-in_err-write_text.result c.from_residual-in_err-write_text.ensures.1 in
    let m = c.in_ok-trace.trace in
    let n = c.tell_all.new.trace in
    let told = c.tell_all.new.sink in
    let on = subst (λ (ts : List ℕ). WalksOn c.args.p.now ts c.args.names.now c.args.part m (turn_at (First ts) m.machine.core) (g.K.Sink.text c.args.sink.now) (g.K.Sink.faults c.args.sink.now) n None (g.K.Sink.text told) (g.K.Sink.faults told)) c.as_slice.ensures c.in_ok-tell_all.ensures in
    rw (p.1, p.2) (unended c.args.p.now c.args.cfg.now c.args.order.now c.args.names.now c.args.part (g.K.Sink.text c.args.sink.now) (g.K.Sink.text told) (g.K.Sink.text c.write_text.new.sink) (g.K.Sink.faults c.args.sink.now) (g.K.Sink.faults told) (g.K.Sink.faults c.write_text.new.sink)
    m n c.as_slice-2.result.now c.in_err-write_text.field-0.0 c.in_ok-trace.ensures.ok on c.as_slice-2.ensures.value c.in_err-write_text.ensures)

pub returns-in_err-tell_report : goal.returns-in_err-tell_report
returns-in_err-tell_report g c =
    let p = err_from_is_err_and c.from_residual-in_err-tell_report.result c.from_residual-in_err-tell_report.ensures.1 in
    let m = c.in_ok-trace.trace in
    let n = c.tell_all.new.trace in
    let told = c.tell_all.new.sink in
    let late = c.write_text.new.sink in
    let on = subst (λ (ts : List ℕ). WalksOn c.args.p.now ts c.args.names.now c.args.part m (turn_at (First ts) m.machine.core) (g.K.Sink.text c.args.sink.now) (g.K.Sink.faults c.args.sink.now) n None (g.K.Sink.text told) (g.K.Sink.faults told)) c.as_slice.ensures c.in_ok-tell_all.ensures in
    let ended = subst (λ (ends : List ℕ). g.K.Sink.text late ≡ option_map (λ t. t ++ ends) (g.K.Sink.text told)) c.as_slice-2.ensures.value c.in_ok-write_text.ensures.1 in
    rw (p.1, p.2) (unreported c.args.p.now c.args.cfg.now c.args.order.now c.args.names.now c.args.part (g.K.Sink.text c.args.sink.now) (g.K.Sink.text told) (g.K.Sink.text late) (g.K.Sink.text c.tell_report.new.sink)
    (g.K.Sink.faults c.args.sink.now) (g.K.Sink.faults told) (g.K.Sink.faults late) (g.K.Sink.faults c.tell_report.new.sink) m n c.outcome-outcome.result c.in_err-tell_report.field-0.0
    c.in_ok-trace.ensures.ok on ended c.in_ok-write_text.ensures.0 c.outcome-outcome.ensures c.in_err-tell_report.ensures)
