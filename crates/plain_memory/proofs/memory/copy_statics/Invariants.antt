use Rattle.std.proofs.Common.{◌≡◌, take}
use Rattle.plain_memory.proofs.memory.copy_statics.Given as goal

abbrev pub invariant-loop-s : goal.invariant-loop-s
invariant-loop-s l = l.copies.items ≡ take l.s-index l.statics
