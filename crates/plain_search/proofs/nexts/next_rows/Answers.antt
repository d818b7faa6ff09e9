use Rattle.std.proofs.Common.{arith, ap, length, []}
use Rattle.plain_search.specs.Nexts.{IsNextRow}
use Rattle.plain_search.proofs.RowLists.{longer_twice, all_of}
use Rattle.plain_search.proofs.NextLists.{one_thread, all_threads}
use Rattle.plain_search.proofs.nexts.next_rows.Goals as goal

pub loop-t-preserved : goal.loop-t-preserved
loop-t-preserved c = record {
  same = c.in_ok-add_of.ensures.spare;
  there = one_thread (IsNextRow c.args.q.now) c.args.q.now c.loop-t.rows.items c.add_of.new.rows.items c.loop-t.t c.in_ok-add_of.ensures.longer c.loop-t.invariant.there c.in_ok-add_of.ensures.there;
  longer = longer_twice (IsNextRow c.args.q.now) [] c.loop-t.rows.items c.add_of.new.rows.items c.loop-t.invariant.longer c.in_ok-add_of.ensures.longer;
}

pub returns-clause-there : goal.returns-clause-there
returns-clause-there c = all_threads c.args.q.now c.loop-t.rows.items c.loop-t.t (omega (arith, c.loop-t-test.false, c.len-t-end.ensures, ap length c.threads.ensures)) c.loop-t.invariant.there

pub returns-clause-nexts : goal.returns-clause-nexts
returns-clause-nexts c = all_of (IsNextRow c.args.q.now) c.loop-t.rows.items c.loop-t.invariant.longer
