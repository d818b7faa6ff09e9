use Rattle.std.proofs.Common.{◌≡◌, ◌<◌, ◌+◌, ℕ, List, Some, length, slice_get}
use Rattle.widest_paths.specs.WidestPaths.{AreWidest}
use Rattle.guard_analysis.proofs.block_reach.Reaches.of.Given as goal

abbrev pub invariant-loop-r : goal.invariant-loop-r
invariant-loop-r l = record {
  long : length l.rules ≡ l.r;
  each : (r : ℕ) → r < l.r → (widths : List ℕ) × (slice_get l.rules r ≡ Some widths) × AreWidest l.g l.grades (r + 1) widths;
}
