use Rattle.std.proofs.Common.{◌<◌, ◌^◌, length, ◌∙◌, arith}
use Rattle.jvm_types.specs.ClassGrammar.{IsClass}
use Rattle.link_scope.proofs.{ListLaws.{length_push, all_at}, RowLaws.rows_next}
use Rattle.link_scope.proofs.file_texts.number_files.Goals as goal

pub loop-class-preserved : goal.loop-class-preserved
loop-class-preserved c =
    let small : length c.class-item.result.constants < 2 ^ 16 = (all_at IsClass _ _ _ (rw (← c.as_slice-class-items.ensures) at c.requires.files.classes) c.loop-class-test.true c.class-item.is).pool.count in
    record {
      kept = λ text n e. c.in_ok-number_pool.ensures.kept text n (c.loop-class.invariant.kept text n e);
      names = c.in_ok-number_pool.ensures.names ∙ c.loop-class.invariant.names;
      count = omega (arith, c.in_ok-number_pool.ensures.count);
      long = rw c.in_ok-push.ensures.ok (length_push _ _ _ c.loop-class.invariant.long);
      rows = rw c.in_ok-push.ensures.ok (rows_next _ _ c.in_ok-number_pool.ensures.kept _ _ _ _ _ c.loop-class-test.true c.class-item.is c.loop-class.invariant.long c.loop-class.invariant.rows c.in_ok-number_pool.ensures.row);
    }
