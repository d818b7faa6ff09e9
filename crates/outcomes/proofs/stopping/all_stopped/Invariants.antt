use Rattle.std.proofs.Common.{◌≡◌, ◌++◌, drop}
use Rattle.outcomes.specs.Stops.{stopped_from}
use Rattle.outcomes.proofs.stopping.all_stopped.Given as goal

-- those so far, with those that are left, are all
abbrev pub invariant-loop-t : goal.invariant-loop-t
invariant-loop-t l = l.rows ++ stopped_from l.holdings l.t (drop l.t l.threads) ≡ stopped_from l.holdings 0 l.threads
