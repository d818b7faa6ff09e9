use Rattle.std.proofs.Common.{◌≡◌, take}
use Rattle.plain_threads.proofs.thread.are_same_ends.Given as goal

abbrev pub invariant-loop-i : goal.invariant-loop-i
invariant-loop-i l = take l.i l.a ≡ take l.i l.b
