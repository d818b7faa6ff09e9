use Rattle.replay_runner.proofs.Reaching.{starts}
use Rattle.replay_runner.proofs.locking.run_named.Goals as goal

pub of-locked-requires : goal.of-locked-requires
of-locked-requires g c = starts g.J.Naming.run c.args.machine c.requires.named c.requires.start
