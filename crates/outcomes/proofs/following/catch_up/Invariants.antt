use Rattle.std.proofs.Common.{◌≡◌}
use Rattle.outcomes.proofs.following.catch_up.Given as goal

-- it runs the same program
abbrev pub invariant-loop : goal.invariant-loop
invariant-loop l = l.machine.program ≡ l.fn.machine.program
