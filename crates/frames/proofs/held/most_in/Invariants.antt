use Rattle.std.proofs.Common.{◌≡◌, drop, max}
use Rattle.machine_types.specs.HeldMonitors.{most_in}
use Rattle.frames.proofs.held.most_in.Given as goal

abbrev pub invariant-loop-i : goal.invariant-loop-i
invariant-loop-i l = max l.most (most_in (drop l.i l.frames)) ≡ most_in l.frames
