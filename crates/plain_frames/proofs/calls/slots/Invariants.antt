use Rattle.std.proofs.Common.{◌≡◌, ◌+◌, ◌-◌, ◌*◌, ◌≤◌, drop}
use Rattle.machine_types.specs.Frames.{slots}
use Rattle.plain_frames.proofs.calls.slots.Given as goal

abbrev pub invariant-loop-i : goal.invariant-loop-i
invariant-loop-i l = record {
  so_far : l.total + slots l.p.program (drop l.i l.frames) ≡ slots l.p.program (drop l.down l.frames);
  few : l.total ≤ (l.i - l.down) * 131070;
}
