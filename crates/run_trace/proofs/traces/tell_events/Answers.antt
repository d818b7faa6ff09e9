use Rattle.std.proofs.lemmas.Result.{err_from_is_err_and}
use Rattle.run_trace.proofs.Fronts.{broke_at}
use Rattle.std.proofs.Common.{sym, ap, ◌∙◌, arith}
use Rattle.machine_types.specs.{Core.Of, Schedules.turn_at}
use Rattle.replay_runner.specs.Running.{Running}
use Rattle.run_trace.{specs.Turns.{next_ahead, stage_of, turn_of_next}, proofs.Walks.walks_by}
use Rattle.run_trace.proofs.traces.tell_events.Goals as goal

pub loop-next-preserved : goal.loop-next-preserved
loop-next-preserved g c =
    let p = c.args.p.now in
    let order = c.args.order.now in
    let m = c.args.trace.now in
    let n = c.loop-next.trace in
    let r = c.tell_event.new.trace in
    let inv = c.loop-next.invariant in
    let did = c.in_ok-tell_event.ensures.told in
    let behind = c.next_turn-next-in-Event in
    record {
      program = inv.program ∙ sym (ap (λ (x : Running). x.program) did.machine);
      walk = walks_by p order c.args.names.now c.args.part m n r (turn_at (stage_of order c.args.from) m.machine.core) (turn_of_next order c.loop-next.next) (turn_of_next order behind.result) (Of c.in-Event.t) (stage_of order c.in-Event.progress) _ _ _ _ _ _
          inv.walk (ap (turn_of_next order) c.in-Event.is) did behind.ensures.turn;
      may = behind.ensures.may;
      ahead = omega (arith, behind.ensures.ahead, inv.ahead, ap next_ahead c.in-Event.is);
    }

pub returns-in_err-tell_event-clause-walk : goal.returns-in_err-tell_event-clause-walk
returns-in_err-tell_event-clause-walk g c =
    let p = err_from_is_err_and c.from_residual.result c.from_residual.ensures.1 in
    let order = c.args.order.now in
    let m = c.args.trace.now in
    rw (p.1, p.2) (broke_at c.args.p.now order c.args.names.now c.args.part m c.loop-next.trace c.tell_event.new.trace (turn_at (stage_of order c.args.from) m.machine.core) (turn_of_next order c.loop-next.next) (Of c.in-Event.t) (stage_of order c.in-Event.progress)
    (g.K.Sink.text c.args.sink.now) (g.K.Sink.text c.loop-next.sink) (g.K.Sink.text c.tell_event.new.sink) (g.K.Sink.faults c.args.sink.now) (g.K.Sink.faults c.loop-next.sink) (g.K.Sink.faults c.tell_event.new.sink) c.in_err-tell_event.field-0.0
    c.loop-next.invariant.walk (ap (turn_of_next order) c.in-Event.is) c.in_err-tell_event.ensures.told)
