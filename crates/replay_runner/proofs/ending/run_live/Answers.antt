use Rattle.std.proofs.Common.{ap, ◌∙◌}
use Rattle.replay_runner.{specs.Running.{Running, parts_left}, proofs.LessWork.event_parts}
use Rattle.replay_runner.proofs.ending.run_live.Goals as goal

pub loop-t-preserved : goal.loop-t-preserved
loop-t-preserved g c =
    ap (λ (m : Running). parts_left m.core.threads) c.event.ensures.event ∙ event_parts c.given_is_kept.ensures c.loop-t.locked.program c.loop-t.locked.core c.in-Some.t ∙ c.loop-t.invariant
