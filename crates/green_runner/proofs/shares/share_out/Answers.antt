use Rattle.std.proofs.Common.{◌+◌, ◌<◌, ap, sym, subst, arith}
use Rattle.table_rule.specs.Views.{held_in}
use Rattle.table_runner.{specs.{Handed.Handed, Running.{IsWorker, RestOf}}, proofs.WorkerHands.{rest_split, worker_alone}}
use Rattle.green_runner.proofs.SharedOut.{shared_more}
use Rattle.green_runner.proofs.shares.share_out.Goals as goal

pub loop-i-preserved : goal.loop-i-preserved
loop-i-preserved c =
    let table = c.args.table.now.table_id in
    let q = c.args.table.now.program in
    let cfg = c.args.table.now.cfg in
    let first = held_in c.args.hands.now.threads 0 in
    let rest : RestOf table q cfg (c.loop-i.i + 1) first c.loop-i.hands = c.loop-i.invariant.0 in
    let few : c.loop-i.i < q.program.workers = omega (arith, c.loop-i-test.true, c.workers-count.ensures.workers, ap (λ x. x.program.workers) c.requires.program) in
    let alone : IsWorker table q cfg (c.loop-i.i + 1) c.split-one.result = subst (IsWorker table q cfg (c.loop-i.i + 1)) (sym {A = Handed} c.split-one.ensures.alone) (worker_alone table q cfg c.loop-i.hands (c.loop-i.i + 1) c.split-one.ensures.small rest.of (rest.rest (c.loop-i.i + 1) (omega arith) (omega (arith, few)))) in (
      subst (RestOf table q cfg ((c.loop-i.i + 1) + 1) first) (sym {A = Handed} c.split-one.ensures.rest) (rest_split table q cfg c.loop-i.hands c.loop-i.i first rest),
      c.give.ensures.tables,
      shared_more c.loop-i.i c.loop-i.shares.items c.give.new.shares.items c.split-one.result c.loop-i.invariant.2 c.give.ensures.held alone.held,
      omega (arith, c.give.ensures.few, c.loop-i.invariant.3),
      c.split-one.ensures.small,
      omega (arith, c.give.ensures.count (omega (arith, c.loop-i.invariant.5)), c.loop-i.invariant.5),
      omega (arith, c.give.ensures.room, c.loop-i.invariant.6),
    )
