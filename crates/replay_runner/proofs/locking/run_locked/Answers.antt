use Rattle.replay_runner.proofs.Reaching.{at_start}
use Rattle.replay_runner.proofs.locking.run_locked.Goals as goal

pub run_named-requires-clause-start : goal.run_named-requires-clause-start
run_named-requires-clause-start g c κs within = at_start c.args.p.now c.args.cfg.now c.in_ok-machine.machine c.in_ok-machine.ensures
