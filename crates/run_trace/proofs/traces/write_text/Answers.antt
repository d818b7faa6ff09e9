use Rattle.run_trace.proofs.Fronts.{taken_front}
use Rattle.run_trace.proofs.traces.write_text.Goals as goal

pub returns-in-Err : goal.returns-in-Err
returns-in-Err g c = (c.in-Err.ensures.0, taken_front (g.K.Sink.text c.args.sink.now) (g.K.Sink.text c.write_whole.new.sink) c.args.text.now c.in-Err.ensures.1.0 c.in-Err.ensures.1.2)
