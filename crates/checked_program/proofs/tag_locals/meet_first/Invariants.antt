use Rattle.std.proofs.Common.{◌≡◌, ◌++◌, not, take, drop, length, ◌||◌}
use Rattle.checked_program.specs.LockTags.{same_tags, meet_tags}
use Rattle.checked_program.proofs.tag_locals.meet_first.Given as goal

abbrev pub invariant-loop-i : goal.invariant-loop-i
invariant-loop-i l = record {
  met : take l.i l.tags ++ meet_tags (drop l.i l.tags) (drop l.i l.other) ≡ meet_tags l.fn.tags l.other;
  told : (l.changed || not (same_tags (drop l.i l.tags) (meet_tags (drop l.i l.tags) (drop l.i l.other)))) ≡ not (same_tags l.fn.tags (meet_tags l.fn.tags l.other));
  long : length l.tags ≡ length l.fn.tags;
}
