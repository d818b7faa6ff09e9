use Rattle.std.proofs.Common.{◌≡◌, ◌<◌, ℕ}
use Rattle.machine_types.specs.PlainSteps.{first_end}
use Rattle.outcomes.proofs.sameness.have_same_ends.Given as goal

-- the threads so far ended in the same way
abbrev pub invariant-loop-t : goal.invariant-loop-t
invariant-loop-t l = (u : ℕ) → u < l.t → first_end l.q.state u ≡ first_end l.z.state u
