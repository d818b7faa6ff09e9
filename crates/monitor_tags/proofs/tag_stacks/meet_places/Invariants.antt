use Rattle.std.proofs.Common.{◌≡◌, ◌++◌, not, take, drop, length, ◌||◌}
use Rattle.checked_program.specs.LockTags.{same_tags, meet_tags}
use Rattle.monitor_tags.proofs.tag_stacks.meet_places.Given as goal

abbrev pub invariant-loop-place : goal.invariant-loop-place
invariant-loop-place l = record {
  met : take l.place l.stack ++ meet_tags (drop l.place l.stack) (drop l.place l.other) ≡ meet_tags l.fn.stack l.other;
  told : (l.changed || not (same_tags (drop l.place l.stack) (meet_tags (drop l.place l.stack) (drop l.place l.other)))) ≡ not (same_tags l.fn.stack (meet_tags l.fn.stack l.other));
  long : length l.stack ≡ length l.fn.stack;
}
