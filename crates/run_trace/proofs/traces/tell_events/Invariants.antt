use Rattle.std.proofs.Common.{◌≡◌, ◌≤◌}
use Rattle.machine_types.specs.Schedules.{turn_at}
use Rattle.laws_states.specs.WorkLeft.{all_work}
use Rattle.run_trace.specs.{Traces.WalksOn, Turns.{IsMayBe, next_ahead, parts_ahead, stage_of, turn_of_next}}
use Rattle.run_trace.proofs.traces.tell_events.Given as goal

abbrev pub invariant-loop-next : goal.invariant-loop-next
invariant-loop-next g l = record {
  program : l.p ≡ l.trace.machine.program;
  walk : WalksOn l.p l.order l.names l.part l.fn.trace (turn_at (stage_of l.order l.fn.from) l.fn.trace.machine.core) (g.K.Sink.text l.fn.sink) (g.K.Sink.faults l.fn.sink) l.trace (turn_of_next l.order l.next) (g.K.Sink.text l.sink) (g.K.Sink.faults l.sink);
  may : IsMayBe l.trace.machine.core l.next;
  ahead : next_ahead l.next ≤ parts_ahead l.fn.from;
}

abbrev pub decreases-loop-next : goal.decreases-loop-next
decreases-loop-next g l = all_work l.trace.machine.core
