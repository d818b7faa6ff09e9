use Rattle.std.proofs.Common.{◌≡◌, take}
use Rattle.plain_threads.proofs.threads.copy_each.Given as goal

abbrev pub invariant-loop-x : goal.invariant-loop-x
invariant-loop-x l = l.copies.items ≡ take l.x-index l.threads
