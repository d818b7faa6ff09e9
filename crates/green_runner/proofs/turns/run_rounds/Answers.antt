use Rattle.green_runner.proofs.Turning.{one_round_more}
use Rattle.green_runner.proofs.turns.run_rounds.Goals as goal

pub loop-preserved : goal.loop-preserved
loop-preserved c = one_round_more c.args.machine.now c.loop.machine c.take_round.new.machine c.args.turn c.args.p.now.program.workers c.loop.invariant.0 c.loop.invariant.1 c.take_round.ensures.gives

pub returns-clause-gives : goal.returns-clause-gives
returns-clause-gives c = one_round_more c.args.machine.now c.loop.machine c.take_round.new.machine c.args.turn c.args.p.now.program.workers c.loop.invariant.0 c.loop.invariant.1 c.take_round.ensures.gives
