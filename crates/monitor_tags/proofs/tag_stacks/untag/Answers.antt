use Rattle.std.proofs.{Common.{◌∙◌, add-one}, lemmas.List.length-set}
use Rattle.checked_program.proofs.FilledTags.{without_more}
use Rattle.monitor_tags.proofs.tag_stacks.untag.Goals as goal

pub loop-place-preserved : goal.loop-place-preserved
loop-place-preserved c = record {
  rest = rw (add-one, c.set.ensures, c.without_tag.ensures) (without_more c.args.pc c.loop-place.stack c.loop-place.place c.tag_on-t.result c.tag_on-t.ensures ∙ c.loop-place.invariant.rest);
  long = rw c.set.ensures (length-set c.loop-place.stack c.loop-place.place c.without_tag.result ∙ c.loop-place.invariant.long);
}
