use Rattle.std.proofs.Common.{◌≡◌, ◌++◌, take, drop, length}
use Rattle.checked_program.specs.LockTags.{without}
use Rattle.checked_program.proofs.tag_locals.untag_first.Given as goal

abbrev pub invariant-loop-i : goal.invariant-loop-i
invariant-loop-i l = record {
  rest : take l.i l.tags ++ without l.pc (drop l.i l.tags) ≡ without l.pc l.fn.tags;
  long : length l.tags ≡ length l.fn.tags;
}
