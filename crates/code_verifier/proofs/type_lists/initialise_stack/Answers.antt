use Rattle.std.proofs.{Common.{◌∙◌, add-one}, lemmas.List.length-set}
use Rattle.code_verifier.proofs.TypeLists.{initialise_more}
use Rattle.code_verifier.proofs.type_lists.initialise_stack.Goals as goal

pub loop-place-preserved : goal.loop-place-preserved
loop-place-preserved c = record {
  rest = rw (add-one, c.set.ensures, c.started.ensures) (initialise_more c.args.object c.args.class c.loop-place.stack c.loop-place.place c.type_on-t.result c.type_on-t.ensures ∙ c.loop-place.invariant.rest);
  long = rw c.set.ensures (length-set c.loop-place.stack c.loop-place.place c.started.result ∙ c.loop-place.invariant.long);
}
