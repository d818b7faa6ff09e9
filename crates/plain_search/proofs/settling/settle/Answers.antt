use Rattle.machine_types.specs.declared.plain.Act.TheVariants as acts
use Rattle.plain_search.proofs.LocalRuns.{one_settled}
use Rattle.plain_search.proofs.settling.settle.Goals as goal

pub loop-n-preserved : goal.loop-n-preserved
loop-n-preserved c =
    let step = rw c.if-not-made.false at c.in_ok-made.ensures in
    one_settled c.loop-n.n c.args.p.now c.args.q.now c.loop-n.q c.plain_step.new.q (record { thread = c.args.t; act = acts.Do }) c.requires.program c.loop-n.invariant (c.is_local_at.ensures c.if-not-is_local_at.false) step.0 step.1
