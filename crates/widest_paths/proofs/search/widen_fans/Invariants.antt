use Rattle.std.proofs.Common.{◌<◌}
use Rattle.std.specs.BinaryHeap.{heap_items}
use Rattle.widest_paths.specs.Searches.{IsFromSome, Widens}
use Rattle.widest_paths.proofs.search.widen_fans.Given as goal

abbrev pub invariant-loop-t : goal.invariant-loop-t
invariant-loop-t l = Widens l.g (λ x level. IsFromSome l.g l.fans l.t x × (level < l.width)) l.fn.widths (heap_items l.fn.waiting) l.widths (heap_items l.waiting)
