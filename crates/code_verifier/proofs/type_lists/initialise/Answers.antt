use Rattle.std.proofs.{Common.{◌∙◌, add-one}, lemmas.List.length-set}
use Rattle.code_verifier.proofs.TypeLists.{initialise_more}
use Rattle.code_verifier.proofs.type_lists.initialise.Goals as goal

pub loop-i-preserved : goal.loop-i-preserved
loop-i-preserved c = record {
  rest = rw (add-one, c.set.ensures, c.started.ensures) (initialise_more c.args.object c.args.class c.loop-i.types c.loop-i.i c.type_at-t.result c.type_at-t.ensures ∙ c.loop-i.invariant.rest);
  long = rw c.set.ensures (length-set c.loop-i.types c.loop-i.i c.started.result ∙ c.loop-i.invariant.long);
}
