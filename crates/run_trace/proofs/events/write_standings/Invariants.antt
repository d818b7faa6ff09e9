use Rattle.std.proofs.Common.{◌≡◌, ◌++◌}
use Rattle.run_trace.specs.EventLines.{standings}
use Rattle.run_trace.proofs.events.write_standings.Given as goal

-- the first threads are told
abbrev pub invariant-loop-t : goal.invariant-loop-t
invariant-loop-t l = l.text.items ≡ l.fn.text.items ++ standings l.p l.form l.names l.number l.machine.core l.stands l.t
