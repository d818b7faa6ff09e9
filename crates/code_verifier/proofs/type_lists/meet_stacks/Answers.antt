use Rattle.std.proofs.{Common.{◌∙◌, add-one}, lemmas.List.length-set}
use Rattle.code_verifier.proofs.TypeLists.{meets_more, changes_more}
use Rattle.code_verifier.proofs.type_lists.meet_stacks.Goals as goal

pub loop-place-preserved : goal.loop-place-preserved
loop-place-preserved c = record {
  met = rw (add-one, c.set.ensures, c.meet-least.ensures) (meets_more c.loop-place.stack c.args.others.now c.loop-place.place c.type_on-t.result c.type_on.result c.type_on-t.ensures c.type_on.ensures ∙ c.loop-place.invariant.met);
  told = rw (add-one, c.set.ensures, c.same_type.ensures, c.meet-least.ensures) (changes_more c.loop-place.changed c.loop-place.stack c.args.others.now c.loop-place.place c.type_on-t.result c.type_on.result c.type_on-t.ensures c.type_on.ensures ∙ c.loop-place.invariant.told);
  long = rw c.set.ensures (length-set c.loop-place.stack c.loop-place.place c.meet-least.result ∙ c.loop-place.invariant.long);
}
