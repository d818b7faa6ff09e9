use Rattle.std.proofs.Common.{◌≡◌}
use Rattle.checked_program.specs.MethodCalls.{size_found}
use Rattle.checked_program.proofs.reached_code.size_found.Given as goal

abbrev pub invariant-loop-u : goal.invariant-loop-u
invariant-loop-u l = l.total ≡ size_found l.p.methods l.found l.u
