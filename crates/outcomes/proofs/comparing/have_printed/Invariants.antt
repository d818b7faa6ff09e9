use Rattle.std.{proofs.Common.{◌≡◌, ◌+◌, length, sum_by, take}}
use Rattle.outcomes.proofs.comparing.have_printed.Given as goal

-- what is left, with what the threads so far have printed, is the count
abbrev pub invariant-loop-r : goal.invariant-loop-r
invariant-loop-r l = sum_by (λ r. length r.prints) (take l.r-index l.threads) + l.left ≡ l.fn.count
