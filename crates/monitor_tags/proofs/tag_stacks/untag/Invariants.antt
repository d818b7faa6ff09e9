use Rattle.std.proofs.Common.{◌≡◌, ◌++◌, take, drop, length}
use Rattle.checked_program.specs.LockTags.{without}
use Rattle.monitor_tags.proofs.tag_stacks.untag.Given as goal

abbrev pub invariant-loop-place : goal.invariant-loop-place
invariant-loop-place l = record {
  rest : take l.place l.stack ++ without l.pc (drop l.place l.stack) ≡ without l.pc l.fn.stack;
  long : length l.stack ≡ length l.fn.stack;
}
