use Rattle.std.proofs.Common.{◌≡◌, drop, max}
use Rattle.machine_types.specs.HeldMonitors.{most_held}
use Rattle.frames.proofs.held.most_held.Given as goal

abbrev pub invariant-loop-i : goal.invariant-loop-i
invariant-loop-i l = max l.most (most_held (drop l.i l.tags)) ≡ most_held l.tags
