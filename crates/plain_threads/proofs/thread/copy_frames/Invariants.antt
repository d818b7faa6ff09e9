use Rattle.std.proofs.Common.{◌≡◌, take}
use Rattle.plain_threads.proofs.thread.copy_frames.Given as goal

abbrev pub invariant-loop-f : goal.invariant-loop-f
invariant-loop-f l = l.copies ≡ take l.f-index l.frames
