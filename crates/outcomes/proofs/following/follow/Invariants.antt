use Rattle.std.proofs.Common.{◌≡◌}
use Rattle.outcomes.proofs.following.follow.Given as goal

-- both machines run this program
abbrev pub invariant-loop-step : goal.invariant-loop-step
invariant-loop-step l = (l.machine.program ≡ l.p) × (l.q.program ≡ l.p)
