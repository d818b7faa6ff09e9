use Rattle.std.proofs.Common.{◌≡◌, drop}
use Rattle.checked_program.specs.LockTags.{same_tags, meet_tags}
use Rattle.monitor_tags.proofs.tag_stacks.stack_stays.Given as goal

abbrev pub invariant-loop-place : goal.invariant-loop-place
invariant-loop-place l = same_tags (drop l.place l.stack) (meet_tags (drop l.place l.stack) (drop l.place l.other)) ≡ same_tags l.stack (meet_tags l.stack l.other)
