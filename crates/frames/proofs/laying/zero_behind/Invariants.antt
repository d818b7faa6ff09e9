use Rattle.std.proofs.Common.{◌≡◌, ◌+◌, ◌-◌, ◌++◌, length, take, drop, replicate}
use Rattle.frames.proofs.laying.zero_behind.Given as goal

abbrev pub invariant-loop-i : goal.invariant-loop-i
invariant-loop-i l = record {
  long : length l.slots ≡ length l.fn.slots;
  above : drop (l.to + l.limit) l.slots ≡ drop (l.to + l.limit) l.fn.slots;
  laid : take l.i (drop l.to l.slots) ≡ take l.first (drop l.to l.fn.slots) ++ replicate (l.i - l.first) 0;
}
