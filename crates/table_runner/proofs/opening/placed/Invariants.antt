use Rattle.std.proofs.Common.{length}
use Rattle.table_runner.proofs.StartHands.{ArePlaced}
use Rattle.table_runner.proofs.opening.placed.Given as goal

abbrev pub invariant-loop-thread : goal.invariant-loop-thread
invariant-loop-thread l = ArePlaced l.fn.threads.items l.threads.items l.places

abbrev pub decreases-loop-thread : goal.decreases-loop-thread
decreases-loop-thread l = length l.threads.items
