use Rattle.std.proofs.Common.{◌<◌, ◌≤◌}
use Rattle.std.specs.BinaryHeap.{heap_items}
use Rattle.widest_paths.specs.{WidestPaths.IsInFan, Searches.Widens}
use Rattle.widest_paths.proofs.search.widen_fan.Given as goal

abbrev pub invariant-loop-i : goal.invariant-loop-i
invariant-loop-i l = record {
  from : l.fan.first ≤ l.i;
  widens : Widens l.g (λ x level. IsInFan l.g l.fan x × (x < l.i) × (level < l.width)) l.fn.widths (heap_items l.fn.waiting) l.widths (heap_items l.waiting);
}
