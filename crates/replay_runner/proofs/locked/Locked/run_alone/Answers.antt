use Rattle.replay_runner.proofs.Reaching.{alone_stays, same_program}
use Rattle.replay_runner.proofs.locked.Locked.run_alone.Goals as goal

pub run_alone-requires : goal.run_alone-requires
run_alone-requires g c = same_program g.J.Naming.run c.args.p.now c.self.inside.machine c.requires c.self.invariant

pub invariant_of-self : goal.invariant_of-self
invariant_of-self g c = alone_stays c.one_more_happens.ensures g.J.Naming.run c.self.inside.machine c.run_alone.new.self c.args.t c.run_alone.ensures.on.0 c.run_alone.ensures.on.1 c.self.invariant
