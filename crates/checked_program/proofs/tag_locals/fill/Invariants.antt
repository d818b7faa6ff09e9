use Rattle.std.proofs.Common.{◌≡◌, length}
use Rattle.checked_program.specs.LockTags.{filled_tags}
use Rattle.checked_program.proofs.tag_locals.fill.Given as goal

abbrev pub invariant-loop-place : goal.invariant-loop-place
invariant-loop-place l = record {
  same : filled_tags l.count l.tags ≡ filled_tags l.count l.fn.tags;
  long : l._place ≡ length l.tags;
}
