use Rattle.std.proofs.Common.{◌≡◌}
use Rattle.outcomes.proofs.standing.behind.Given as goal

-- the machine is of the program
abbrev pub invariant-loop-t : goal.invariant-loop-t
invariant-loop-t l = l.p ≡ l.machine.program
