use Rattle.std.{proofs.Common.{length, ◌-◌, ◌≡◌, ◌≤◌, ◌++◌, take}, specs.Option.option_map}
use Rattle.host_io.proofs.writing.write_whole.Given as goal

-- the front that was written has been accepted, and no fault was counted
abbrev pub invariant-loop-written : goal.invariant-loop-written
invariant-loop-written g l = record {
  within : l.written ≤ length l.text;
  calm : g.K.Sink.faults l.sink ≡ g.K.Sink.faults l.fn.sink;
  front : g.K.Sink.text l.sink ≡ option_map (λ t. t ++ take l.written l.text) (g.K.Sink.text l.fn.sink);
}

abbrev pub decreases-loop-written : goal.decreases-loop-written
decreases-loop-written g l = length l.text - l.written
