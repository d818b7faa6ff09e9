use Rattle.std.proofs.Common.{◌≡◌, ◌≤◌, ◌-◌, drop, length}
use Rattle.machine_types.specs.Sections.{is_marked}
use Rattle.step_core.proofs.marked.marks_before.Given as goal

abbrev pub invariant-loop-low : goal.invariant-loop-low
invariant-loop-low l = (l.low ≤ l.high) × (l.high ≤ length l.marks) × (is_marked (drop l.low l.marks) l.method l.spot ≡ is_marked l.marks l.method l.spot)

abbrev pub decreases-loop-low : goal.decreases-loop-low
decreases-loop-low l = l.high - l.low
