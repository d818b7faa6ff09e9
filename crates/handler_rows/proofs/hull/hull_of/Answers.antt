use Rattle.std.proofs.Common.{◌∙◌}
use Rattle.handler_rows.proofs.HullLaws.{one_more}
use Rattle.handler_rows.proofs.hull.hull_of.Goals as goal

pub loop-row-preserved : goal.loop-row-preserved
loop-row-preserved c = record {
  count = c.widened-hull.ensures.wider.count ∙ c.loop-row.invariant.count;
  all = one_more c.loop-row.hull c.widened-hull.result c.args.rows.now c.loop-row.row-index _ c.loop-row-test.true c.widened-hull.ensures.wider c.widened-hull.ensures.within c.loop-row.invariant.all;
}
