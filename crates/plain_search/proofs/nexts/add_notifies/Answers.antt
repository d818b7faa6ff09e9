use Rattle.std.proofs.Common.{arith, ap, length}
use Rattle.plain_search.specs.Nexts.{IsNextRow}
use Rattle.plain_search.proofs.RowLists.{no_longer, longer_twice}
use Rattle.plain_search.proofs.NextLists.{none_below, one_below, all_below}
use Rattle.plain_search.proofs.nexts.add_notifies.Goals as goal

pub loop-u-init : goal.loop-u-init
loop-u-init c = record {
  same = c.requires.same;
  there = none_below c.args.q.now c.args.rows.now.items c.args.thread;
  longer = no_longer (IsNextRow c.args.q.now) c.args.rows.now.items;
}

pub loop-u-preserved : goal.loop-u-preserved
loop-u-preserved c = record {
  same = c.in_ok-add_by.ensures.spare;
  there = one_below (IsNextRow c.args.q.now) c.args.q.now c.loop-u.rows.items c.add_by.new.rows.items c.args.thread c.loop-u.u c.in_ok-add_by.ensures.longer c.loop-u.invariant.there c.in_ok-add_by.ensures.there;
  longer = longer_twice (IsNextRow c.args.q.now) c.args.rows.now.items c.loop-u.rows.items c.add_by.new.rows.items c.loop-u.invariant.longer c.in_ok-add_by.ensures.longer;
}

pub returns-clause-there : goal.returns-clause-there
returns-clause-there c = all_below c.args.q.now c.loop-u.rows.items c.args.thread c.loop-u.u (omega (arith, c.loop-u-test.false, c.len-u-end.ensures, ap length c.threads.ensures)) c.loop-u.invariant.there
