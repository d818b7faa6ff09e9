use Rattle.std.proofs.Common.{◌∙◌, arith}
use Rattle.link_scope.proofs.{ListLaws.length_push, RowLaws.row_next}
use Rattle.link_scope.proofs.file_texts.number_pool.Goals as goal

pub loop-entry-preserved : goal.loop-entry-preserved
loop-entry-preserved c = record {
  kept = λ text n e. c.in_ok-add.ensures.kept text n (c.loop-entry.invariant.kept text n e);
  names = c.in_ok-add.ensures.names ∙ c.loop-entry.invariant.names;
  count = omega (arith, c.in_ok-add.ensures.count);
  long = rw c.in_ok-push.ensures.ok (length_push _ _ _ c.loop-entry.invariant.long);
  row = rw c.in_ok-push.ensures.ok (row_next _ _ c.in_ok-add.ensures.kept _ _ _ _ _ c.loop-entry-test.true c.entry-item.is c.loop-entry.invariant.long c.loop-entry.invariant.row (rw c.text_of.ensures at c.in_ok-add.ensures.number));
}
