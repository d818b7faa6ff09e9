use Rattle.std.proofs.Common.{◌≡◌}
use Rattle.checked_program.specs.MethodCalls.{method_calls}
use Rattle.checked_program.proofs.reached_code.method_calls.Given as goal

abbrev pub invariant-loop-a : goal.invariant-loop-a
invariant-loop-a l = l.graph ≡ method_calls l.p.methods l.a
