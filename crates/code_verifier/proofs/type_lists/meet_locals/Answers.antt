use Rattle.std.proofs.{Common.{◌∙◌, add-one}, lemmas.List.length-set}
use Rattle.code_verifier.proofs.TypeLists.{meets_more, changes_more}
use Rattle.code_verifier.proofs.type_lists.meet_locals.Goals as goal

pub loop-i-preserved : goal.loop-i-preserved
loop-i-preserved c = record {
  met = rw (add-one, c.set.ensures, c.meet-least.ensures) (meets_more c.loop-i.locals c.args.other.now.locals c.loop-i.i c.type_at-t.result c.type_of_local.result c.type_at-t.ensures c.type_of_local.ensures ∙ c.loop-i.invariant.met);
  told = rw (add-one, c.set.ensures, c.same_type.ensures, c.meet-least.ensures) (changes_more c.loop-i.changed c.loop-i.locals c.args.other.now.locals c.loop-i.i c.type_at-t.result c.type_of_local.result c.type_at-t.ensures c.type_of_local.ensures ∙ c.loop-i.invariant.told);
  long = rw c.set.ensures (length-set c.loop-i.locals c.loop-i.i c.meet-least.result ∙ c.loop-i.invariant.long);
}
