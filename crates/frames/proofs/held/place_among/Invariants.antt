use Rattle.std.proofs.Common.{◌≡◌, None, drop}
use Rattle.machine_types.specs.HeldMonitors.{held_at}
use Rattle.frames.proofs.held.place_among.Given as goal

abbrev pub invariant-loop-i : goal.invariant-loop-i
invariant-loop-i l = held_at (drop l.i l.held) l.monitor ≡ None
