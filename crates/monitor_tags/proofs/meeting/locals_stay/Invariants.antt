use Rattle.std.proofs.Common.{◌≡◌, drop}
use Rattle.checked_program.specs.LockTags.{same_tags, meet_tags}
use Rattle.monitor_tags.proofs.meeting.locals_stay.Given as goal

abbrev pub invariant-loop-i : goal.invariant-loop-i
invariant-loop-i l = same_tags (drop l.i l.locals) (meet_tags (drop l.i l.locals) (drop l.i l.other)) ≡ same_tags l.locals (meet_tags l.locals l.other)
