use Rattle.std.proofs.Common.{refl, sym, ◌∙◌}
use Rattle.monitor_tags.proofs.RowsRest.{turn_on}
use Rattle.monitor_tags.proofs.handlers.handle_beside.Goals as goal

pub loop-row-preserved : goal.loop-row-preserved
loop-row-preserved c = turn_on (record {
  m = c.args.m.now;
  pc = c.args.pc;
  at = c.args.at;
  f = c.args.f.now;
  rests = c.loop-row.rests;
  nodes = c.loop-row.nodes;
  rows = c.as_slice-rows.result.now;
  i = c.loop-row.row-index;
  d = _;
  whole = _;
  inside = c.loop-row-test.true;
  left = c.loop-row.invariant;
}) c.turn.new.nodes _
    (rw (c.covers.ensures, c.catches_all.ensures) refl) c.in_ok-turn.ensures.left (sym c.in_ok-turn.ensures.ends ∙ c.if-branch.false) c.in_ok-turn.ensures.level
