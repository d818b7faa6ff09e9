use Rattle.std.proofs.Common.{◌≡◌, ◌++◌, List, Some, reverse, slice_get}
use Rattle.mark_reasons.specs.{Searches.IsBack, declared.reason.Site.Site}
use Rattle.mark_reasons.proofs.search.way_to.Given as goal

abbrev pub invariant-loop-e : goal.invariant-loop-e
invariant-loop-e l = (slice_get l.queue l.k ≡ Some l.e) × ((front : List Site) → IsBack l.class l.own l.method l.queue l.k front → IsBack l.class l.own l.method l.queue l.entry (front ++ reverse l.way.items))

abbrev pub decreases-loop-e : goal.decreases-loop-e
decreases-loop-e l = l.k
