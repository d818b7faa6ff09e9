use Rattle.std.proofs.Common.{◌+◌, ◌<◌, ◌∷◌, [], length, length-append, ap, sym, subst, ◌∙◌, arith}
use Rattle.table_rule.specs.Views.{held_in}
use Rattle.table_runner.{specs.{Handed.Handed, Running.{AreWorkers, IsWorker, RestOf}}, proofs.WorkerHands.{one_more, rest_split, worker_alone}}
use Rattle.table_runner.proofs.workers.split_workers.Goals as goal

pub loop-i-preserved : goal.loop-i-preserved
loop-i-preserved c =
    let table = c.args.table.now.table_id in
    let q = c.args.table.now.program in
    let cfg = c.args.table.now.cfg in
    let first = held_in c.args.hands.now.threads 0 in
    let rest : RestOf table q cfg (c.loop-i.i + 1) first c.loop-i.hands = c.loop-i.invariant.0 in
    let few : c.loop-i.i < q.program.workers = omega (arith, c.loop-i-test.true, c.workers-count.ensures.workers, ap (λ x. x.program.workers) c.requires.program) in
    let alone : IsWorker table q cfg (c.loop-i.i + 1) c.split.result = subst (IsWorker table q cfg (c.loop-i.i + 1)) (sym {A = Handed} c.split.ensures.alone) (worker_alone table q cfg c.loop-i.hands (c.loop-i.i + 1) c.split.ensures.small rest.of (rest.rest (c.loop-i.i + 1) (omega arith) (omega (arith, few)))) in (
      subst (RestOf table q cfg ((c.loop-i.i + 1) + 1) first) (sym {A = Handed} c.split.ensures.rest) (rest_split table q cfg c.loop-i.hands c.loop-i.i first rest),
      subst (AreWorkers table q cfg) (sym c.push_reserved.ensures.items) (one_more table q cfg c.loop-i.workers.items c.split.result c.loop-i.i c.loop-i.invariant.2 c.loop-i.invariant.1 alone),
      ap length c.push_reserved.ensures.items ∙ length-append c.loop-i.workers.items (c.split.result ∷ []) ∙ ap (λ n. n + 1) c.loop-i.invariant.2,
      c.split.ensures.small,
      omega (arith, c.push_reserved.ensures.capacity, c.loop-i.invariant.4),
    )
