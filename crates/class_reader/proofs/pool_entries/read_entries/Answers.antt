use Rattle.std.proofs.{Common.true, lemmas.Result.err_from_is_err_and}
use Rattle.jvm_types.{specs.ReadingPool.entries_at, proofs.LoopLaws.entries_done}
use Rattle.class_reader.proofs.StepLoops.{entries_step, entries_fail}
use Rattle.class_reader.proofs.pool_entries.read_entries.Goals as goal

pub returns-in_err-constant : goal.returns-in_err-constant
returns-in_err-constant c =
    let p = err_from_is_err_and c.from_residual.result c.from_residual.ensures.1 in
    rw (p.1, p.2) (entries_fail c.in_err-constant.field-0.0 c.loop.constants c.args.count c.loop.counter c.loop.is_gap_due c.loop.rest.now (entries_at c.args.count true c.args.bytes.now) c.loop-test.true c.in_err-constant.ensures c.loop.invariant)

pub loop-preserved : goal.loop-preserved
loop-preserved c =
    rw (c.in_ok-push.ensures.ok, c.is_wide-is_gap_due.ensures) (entries_step c.loop.constants c.args.count c.loop.counter c.loop.is_gap_due c.loop.rest.now c.in_ok-constant.constant c.in_ok-constant.after.now (entries_at c.args.count true c.args.bytes.now) c.loop-test.true c.in_ok-constant.ensures c.loop.invariant)

pub returns : goal.returns
returns c = entries_done c.loop.constants c.args.count c.loop.counter c.loop.is_gap_due c.loop.rest.now (entries_at c.args.count true c.args.bytes.now) c.loop-test.false c.loop.invariant
