use Rattle.std.proofs.lemmas.Result.{err_from_is_err_and}
use Rattle.jvm_types.{specs.ReadingSteps.many_at, proofs.LoopLaws.{many_more, many_done}}
use Rattle.class_reader.proofs.StepLoops.{many_fails}
use Rattle.class_reader.proofs.list_reading.read_many.Goals as goal

pub returns-in_err-item : goal.returns-in_err-item
returns-in_err-item g c =
    let p = err_from_is_err_and c.from_residual.result c.from_residual.ensures.1 in
    rw (p.1, p.2) (many_fails c.in_err-item.field-0.0 (g.S.Step.item_at c.args.pool.now) c.loop.items c.args.count c.loop.counter c.loop.rest.now (many_at (g.S.Step.item_at c.args.pool.now) c.args.count c.args.bytes.now) c.loop-test.true c.in_err-item.ensures c.loop.invariant)

pub loop-preserved : goal.loop-preserved
loop-preserved g c =
    rw c.in_ok-push.ensures.ok (many_more (g.S.Step.item_at c.args.pool.now) c.loop.items c.args.count c.loop.counter c.loop.rest.now c.in_ok-item.item c.in_ok-item.after.now (many_at (g.S.Step.item_at c.args.pool.now) c.args.count c.args.bytes.now) c.loop-test.true c.in_ok-item.ensures c.loop.invariant)

pub returns : goal.returns
returns g c = many_done (g.S.Step.item_at c.args.pool.now) c.loop.items c.args.count c.loop.counter c.loop.rest.now (many_at (g.S.Step.item_at c.args.pool.now) c.args.count c.args.bytes.now) c.loop-test.false c.loop.invariant
