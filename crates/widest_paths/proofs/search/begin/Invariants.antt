use Rattle.std.proofs.Common.{◌≡◌, ◌<◌, true, slice_get}
use Rattle.std.specs.BinaryHeap.{heap_items}
use Rattle.widest_paths.specs.{WidestPaths.is_labelled, Searches.Widens}
use Rattle.widest_paths.proofs.search.begin.Given as goal

abbrev pub invariant-loop-i : goal.invariant-loop-i
invariant-loop-i l = Widens l.g (λ x level. (x < l.i) × (is_labelled l.label (slice_get l.labels x) ≡ true)) l.fn.widths (heap_items l.fn.waiting) l.widths (heap_items l.waiting)
