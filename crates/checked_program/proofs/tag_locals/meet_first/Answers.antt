use Rattle.std.proofs.{Common.{◌∙◌, add-one}, lemmas.List.length-set}
use Rattle.checked_program.proofs.FilledTags.{meet_more, told_more}
use Rattle.checked_program.proofs.tag_locals.meet_first.Goals as goal

pub loop-i-preserved : goal.loop-i-preserved
loop-i-preserved c = record {
  met = rw (add-one, c.set.ensures, c.meet_tag-met.ensures) (meet_more c.loop-i.tags c.args.other.now c.loop-i.i c.tag_at-t.result c.tag_of_local.result c.tag_at-t.ensures c.tag_of_local.ensures ∙ c.loop-i.invariant.met);
  told = rw (add-one, c.set.ensures, c.same_tag.ensures, c.meet_tag-met.ensures) (told_more c.loop-i.changed c.loop-i.tags c.args.other.now c.loop-i.i c.tag_at-t.result c.tag_of_local.result c.tag_at-t.ensures c.tag_of_local.ensures ∙ c.loop-i.invariant.told);
  long = rw c.set.ensures (length-set c.loop-i.tags c.loop-i.i c.meet_tag-met.result ∙ c.loop-i.invariant.long);
}
