use Rattle.std.proofs.Common.{◌≡◌, ◌+◌, length, take, drop, reverse}
use Rattle.frames.proofs.laying.lay.Given as goal

abbrev pub invariant-loop-i : goal.invariant-loop-i
invariant-loop-i l = record {
  long : length l.slots ≡ length l.fn.slots;
  above : drop (l.to + l.limit) l.slots ≡ drop (l.to + l.limit) l.fn.slots;
  laid : take l.i (drop l.to l.slots) ≡ take l.i (reverse (take l.count (drop l.from l.fn.slots)));
}
