use Rattle.std.proofs.lemmas.Result.{err_from_is_err_and}
use Rattle.run_trace.proofs.Fronts.{broke_at, broke_then}
use Rattle.std.proofs.Common.{refl, sym, ap, ◌∙◌}
use Rattle.machine_types.specs.{Core.NextPart, Schedules.{First, turn_at}}
use Rattle.replay_runner.specs.Running.{Running}
use Rattle.run_trace.{specs.Turns.{stage_of, turn_of_next}, proofs.Walks.{walks_both, walks_by}}
use Rattle.run_trace.proofs.traces.tell_all.Goals as goal

pub loop-next-init : goal.loop-next-init
loop-next-init g c = record { program = c.requires ∙ sym c.in_ok-next.ensures.walk.program; walk = c.in_ok-next.ensures.walk; part = c.in_ok-next.ensures.part }

pub loop-next-preserved : goal.loop-next-preserved
loop-next-preserved g c =
    let p = c.args.p.now in
    let order = c.args.order.now in
    let names = c.args.names.now in
    let part = c.args.part in
    let m = c.args.trace.now in
    let n = c.loop-next.trace in
    let r = c.tell_part.new.trace in
    let q = c.tell_events-in-Part.new.trace in
    let inv = c.loop-next.invariant in
    let did = c.in_ok-tell_part.ensures.told in
    let stage = stage_of order c.in-Part.progress in
    let start = turn_at (First order) m.machine.core in
    let by = walks_by p order names part m n r start (turn_of_next order c.loop-next.next) (turn_at stage r.machine.core) NextPart stage _ _ _ _ _ _ inv.walk (ap (turn_of_next order) c.in-Part.is) did refl in
    record {
      program = inv.program ∙ sym (ap (λ (x : Running). x.program) did.machine) ∙ sym c.in_ok-next-2.ensures.walk.program;
      walk = walks_both p order names part m r q start (turn_at stage r.machine.core) (turn_of_next order c.in_ok-next-2.next) _ _ _ _ _ _ by c.in_ok-next-2.ensures.walk;
      part = c.in_ok-next-2.ensures.part;
    }

pub returns-in_err-tell_part : goal.returns-in_err-tell_part
returns-in_err-tell_part g c =
    let p = err_from_is_err_and c.from_residual-in_err-tell_part.result c.from_residual-in_err-tell_part.ensures.1 in
    let order = c.args.order.now in
    let m = c.args.trace.now in
    rw (p.1, p.2) (broke_at c.args.p.now order c.args.names.now c.args.part m c.loop-next.trace c.tell_part.new.trace (turn_at (First order) m.machine.core) (turn_of_next order c.loop-next.next) NextPart (stage_of order c.in-Part.progress)
    (g.K.Sink.text c.args.sink.now) (g.K.Sink.text c.loop-next.sink) (g.K.Sink.text c.tell_part.new.sink) (g.K.Sink.faults c.args.sink.now) (g.K.Sink.faults c.loop-next.sink) (g.K.Sink.faults c.tell_part.new.sink) c.in_err-tell_part.field-0.0
    c.loop-next.invariant.walk (ap (turn_of_next order) c.in-Part.is) c.in_err-tell_part.ensures.told)

pub returns-in_err-next-2 : goal.returns-in_err-next-2
returns-in_err-next-2 g c =
    let p = err_from_is_err_and c.from_residual-in_err-next-2.result c.from_residual-in_err-next-2.ensures.1 in
    let program = c.args.p.now in
    let order = c.args.order.now in
    let names = c.args.names.now in
    let part = c.args.part in
    let m = c.args.trace.now in
    let r = c.tell_part.new.trace in
    let stage = stage_of order c.in-Part.progress in
    let start = turn_at (First order) m.machine.core in
    let by = walks_by program order names part m c.loop-next.trace r start (turn_of_next order c.loop-next.next) (turn_at stage r.machine.core) NextPart stage _ _ _ _ _ _ c.loop-next.invariant.walk (ap (turn_of_next order) c.in-Part.is) c.in_ok-tell_part.ensures.told refl in
    rw (p.1, p.2) (broke_then program order names part m r start (turn_at stage r.machine.core) (g.K.Sink.text c.args.sink.now) (g.K.Sink.text c.tell_part.new.sink) (g.K.Sink.text c.tell_events-in-Part.new.sink)
    (g.K.Sink.faults c.args.sink.now) (g.K.Sink.faults c.tell_part.new.sink) (g.K.Sink.faults c.tell_events-in-Part.new.sink) c.in_err-next-2.field-0.0 by c.in_err-next-2.ensures.walk)
