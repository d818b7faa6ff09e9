use Rattle.std.proofs.{Common.{◌∙◌, add-one}, lemmas.List.length-set}
use Rattle.checked_program.proofs.FilledTags.{meet_more, told_more}
use Rattle.monitor_tags.proofs.tag_stacks.meet_places.Goals as goal

pub loop-place-preserved : goal.loop-place-preserved
loop-place-preserved c = record {
  met = rw (add-one, c.set.ensures, c.meet_tag-met.ensures) (meet_more c.loop-place.stack c.args.other.now c.loop-place.place c.tag_on-t.result c.tag_on.result c.tag_on-t.ensures c.tag_on.ensures ∙ c.loop-place.invariant.met);
  told = rw (add-one, c.set.ensures, c.same_tag.ensures, c.meet_tag-met.ensures) (told_more c.loop-place.changed c.loop-place.stack c.args.other.now c.loop-place.place c.tag_on-t.result c.tag_on.result c.tag_on-t.ensures c.tag_on.ensures ∙ c.loop-place.invariant.told);
  long = rw c.set.ensures (length-set c.loop-place.stack c.loop-place.place c.meet_tag-met.result ∙ c.loop-place.invariant.long);
}
