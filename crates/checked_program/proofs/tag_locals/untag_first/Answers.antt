use Rattle.std.proofs.{Common.{◌∙◌, add-one}, lemmas.List.length-set}
use Rattle.checked_program.proofs.FilledTags.{without_more}
use Rattle.checked_program.proofs.tag_locals.untag_first.Goals as goal

pub loop-i-preserved : goal.loop-i-preserved
loop-i-preserved c = record {
  rest = rw (add-one, c.set.ensures, c.without_tag.ensures) (without_more c.args.pc c.loop-i.tags c.loop-i.i c.tag_at-t.result c.tag_at-t.ensures ∙ c.loop-i.invariant.rest);
  long = rw c.set.ensures (length-set c.loop-i.tags c.loop-i.i c.without_tag.result ∙ c.loop-i.invariant.long);
}
