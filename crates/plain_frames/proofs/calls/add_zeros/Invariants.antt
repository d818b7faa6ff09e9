use Rattle.std.proofs.Common.{◌≡◌, ◌-◌, ◌++◌, replicate}
use Rattle.plain_frames.proofs.calls.add_zeros.Given as goal

abbrev pub invariant-loop : goal.invariant-loop
invariant-loop l = l.values ++ replicate (l.count - l.counter) 0 ≡ l.fn.values ++ replicate l.count 0
