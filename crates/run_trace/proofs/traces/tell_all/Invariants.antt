use Rattle.std.proofs.Common.{◌≡◌}
use Rattle.machine_types.specs.Schedules.{First, turn_at}
use Rattle.run_trace.specs.{Traces.WalksOn, Turns.{IsNoEvent, next_ahead, turn_of_next}}
use Rattle.run_trace.proofs.traces.tell_all.Given as goal

abbrev pub invariant-loop-next : goal.invariant-loop-next
invariant-loop-next g l = record {
  program : l.p ≡ l.trace.machine.program;
  walk : WalksOn l.p l.order l.names l.part l.fn.trace (turn_at (First l.order) l.fn.trace.machine.core) (g.K.Sink.text l.fn.sink) (g.K.Sink.faults l.fn.sink) l.trace (turn_of_next l.order l.next) (g.K.Sink.text l.sink) (g.K.Sink.faults l.sink);
  part : IsNoEvent l.next;
}

abbrev pub decreases-loop-next : goal.decreases-loop-next
decreases-loop-next g l = next_ahead l.next
