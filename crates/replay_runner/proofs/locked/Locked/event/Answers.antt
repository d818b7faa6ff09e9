use Rattle.replay_runner.proofs.Reaching.{event_stays, same_program}
use Rattle.replay_runner.proofs.locked.Locked.event.Goals as goal

pub event-requires : goal.event-requires
event-requires g c = same_program g.J.Naming.run c.args.p.now c.self.inside.machine c.requires c.self.invariant

pub invariant_of-self : goal.invariant_of-self
invariant_of-self g c = event_stays c.one_more_happens.ensures g.J.Naming.run c.self.inside.machine c.event.new.self c.args.t c.event.ensures.event c.self.invariant
