use Rattle.std.proofs.lemmas.Result.{err_from_is_err_and}
use Rattle.jvm_types.{specs.ReadingPool.entries_wanted, proofs.LoopLaws.{checks_more, checks_done}}
use Rattle.class_reader.proofs.StepLoops.{checks_fail, at_index, within, passed}
use Rattle.class_reader.proofs.pool_checks.check_entries.Goals as goal

pub returns-in_err-check_entry : goal.returns-in_err-check_entry
returns-in_err-check_entry c =
    let p = err_from_is_err_and c.from_residual.result c.from_residual.ensures.1 in
    let items = c.as_slice-entry-items in
    rw (p.1, p.2) (checks_fail c.in_err-check_entry.field-0.0 c.args.pool.now c.loop-i.i c.loop-i.left c.entry-item.result (entries_wanted c.args.pool.now c.args.pool.now c.args.left)
    (at_index items.result.now c.args.pool.now c.loop-i.i c.entry-item.result items.ensures c.loop-i-test.true c.entry-item.is)
    (within items.result.now c.args.pool.now c.loop-i.i items.ensures c.loop-i-test.true)
    (rw c.len.ensures at c.in_err-check_entry.ensures) c.loop-i.invariant)

pub loop-i-preserved : goal.loop-i-preserved
loop-i-preserved c =
    let items = c.as_slice-entry-items in
    rw (c.saturating_sub-left.ensures, c.spelled_len.ensures) (checks_more c.args.pool.now c.loop-i.i c.loop-i.left c.entry-item.result (entries_wanted c.args.pool.now c.args.pool.now c.args.left)
    (at_index items.result.now c.args.pool.now c.loop-i.i c.entry-item.result items.ensures c.loop-i-test.true c.entry-item.is)
    (within items.result.now c.args.pool.now c.loop-i.i items.ensures c.loop-i-test.true)
    (rw c.len.ensures at c.in_ok-check_entry.ensures) c.loop-i.invariant)

pub returns : goal.returns
returns c = checks_done c.args.pool.now c.loop-i.i c.loop-i.left (entries_wanted c.args.pool.now c.args.pool.now c.args.left) (passed c.as_slice-entry-items.result.now c.args.pool.now c.loop-i.i c.as_slice-entry-items.ensures c.loop-i-test.false) c.loop-i.invariant
