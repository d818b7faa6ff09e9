use Rattle.std.proofs.Common.{◌<◌, ℕ, subst}
use Rattle.outcomes.proofs.StopLists.{one_more_stopped}
use Rattle.outcomes.proofs.stopping.all_stopped.Goals as goal

-- src/stopping.rt:154:5
pub loop-t-preserved : goal.loop-t-preserved
loop-t-preserved c = one_more_stopped c.args.holdings.now c.loop-t.t c.args.threads.now c.loop-t.rows c.add_at.new.rows _ (subst (λ (n : ℕ). c.loop-t.t < n) c.len-t-end.ensures c.loop-t-test.true) c.in_ok-add_at.ensures c.loop-t.invariant
