use Rattle.std.proofs.Common.{◌≡◌}
use Rattle.checked_program.specs.MethodCalls.{calls_before}
use Rattle.checked_program.proofs.reached_code.add_calls.Given as goal

abbrev pub invariant-loop-i : goal.invariant-loop-i
invariant-loop-i l = l.graph ≡ calls_before l.methods l.m l.a l.fn.graph l.i
