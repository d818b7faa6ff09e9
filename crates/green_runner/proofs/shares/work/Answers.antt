use Rattle.std.{proofs.Common.{◌+◌}, specs.List.range_with_len}
use Rattle.green_runner.proofs.Passes.{same_both, turns_same}
use Rattle.green_runner.proofs.shares.work.Goals as goal

pub loop-preserved : goal.loop-preserved
loop-preserved g c =
    same_both c.args.hands.now c.loop.hands c.pass-in-loop.new.hands c.loop.invariant
    (turns_same c.args.turn (range_with_len 0 (c.args.p.now.program.workers + 1)) c.loop.hands c.pass-in-loop.new.hands c.pass-in-loop.ensures.turns)
