use Rattle.std.proofs.Common.{Ok, Err, List, subst}
use Rattle.std.proofs.lemmas.Result.{err_from_is_err_and}
use Rattle.tellings.specs.declared.facts.Fact.{Fact}
use Rattle.run_trace.{specs.{EventLines.begin_text, Traces.IsPut}, proofs.Fronts.{traced_then, unbegun}}
use Rattle.run_trace.proofs.traces.explain_run.Goals as goal

pub returns : goal.returns
returns g c =
    let told = g.K.Sink.text c.args.sink.now in
    let mid = g.K.Sink.text c.tell_begin.new.sink in
    let before = g.K.Sink.faults c.args.sink.now in
    let between = g.K.Sink.faults c.tell_begin.new.sink in
    let form = c.args.part.form in
    let put = subst (λ (begin : List Fact). IsPut told mid before between (begin_text form begin) {A = Unit {0}} (Ok tt)) c.as_slice.ensures c.in_ok-tell_begin.ensures in
    traced_then c.args.p.now c.args.cfg.now c.args.order.now c.args.names.now c.args.part (begin_text form c.args.begin.now) told mid (g.K.Sink.text c.tell_run.new.sink) before between (g.K.Sink.faults c.tell_run.new.sink) c.tell_run.result put c.tell_run.ensures

pub returns-in_err-tell_begin : goal.returns-in_err-tell_begin
returns-in_err-tell_begin g c =
    let p = err_from_is_err_and c.from_residual.result c.from_residual.ensures.1 in
    let told = g.K.Sink.text c.args.sink.now in
    let now = g.K.Sink.text c.tell_begin.new.sink in
    let before = g.K.Sink.faults c.args.sink.now in
    let after = g.K.Sink.faults c.tell_begin.new.sink in
    let form = c.args.part.form in
    let put = subst (λ (begin : List Fact). IsPut told now before after (begin_text form begin) {A = Unit {0}} (Err c.in_err-tell_begin.field-0.0)) c.as_slice.ensures c.in_err-tell_begin.ensures in
    rw (p.1, p.2) (unbegun c.args.p.now c.args.cfg.now c.args.order.now c.args.names.now c.args.part (begin_text form c.args.begin.now) c.every_order_has_run.ensures c.workers-workers.ensures.marked c.have_width.ensures c.requires told now before after c.in_err-tell_begin.field-0.0 put)
