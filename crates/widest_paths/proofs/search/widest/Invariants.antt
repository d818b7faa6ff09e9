use Rattle.std.specs.BinaryHeap.{heap_items}
use Rattle.widest_paths.specs.Searches.{IsWidened, left_to_widen}
use Rattle.widest_paths.proofs.search.widest.Given as goal

abbrev pub invariant-loop-k : goal.invariant-loop-k
invariant-loop-k l = IsWidened l.g l.labels l.label l.widths (heap_items l.waiting)

abbrev pub decreases-loop-k : goal.decreases-loop-k
decreases-loop-k l = left_to_widen l.g l.widths (heap_items l.waiting)
