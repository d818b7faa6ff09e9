use Rattle.std.{proofs.Common.{ap, sym, ℕ, Option, arith}, specs.Option.option_or}
use Rattle.machine_types.specs.Schedules.{live_from}
use Rattle.replay_runner.proofs.{MachineEvents.live_there, Turns.live_here}
use Rattle.replay_runner.proofs.replaying.next_worker.Goals as goal

pub returns-then-is_live_worker-clause-worker : goal.returns-then-is_live_worker-clause-worker
returns-then-is_live_worker-clause-worker c =
    let s = c.args.machine.now.core in
    let live = c.is_live_worker.ensures in
    ap (λ (t : Option ℕ). option_or t (live_from s 1)) (sym (live_here s c.args.from (live.some c.if-is_live_worker.true) (live.live c.if-is_live_worker.true)))

pub returns-then-is_live_worker-clause-few : goal.returns-then-is_live_worker-clause-few
returns-then-is_live_worker-clause-few c =
    let there = live_there c.args.machine.now.core c.args.from (c.is_live_worker.ensures.live c.if-is_live_worker.true) in
    omega (arith, there, c.workers-workers.ensures.count, c.workers-workers.ensures.few)
