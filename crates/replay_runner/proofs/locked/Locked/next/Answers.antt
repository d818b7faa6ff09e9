use Rattle.std.proofs.Common.{sym, ◌∙◌}
use Rattle.replay_runner.proofs.{Reaching.{next_stays, same_program}, Turns.next_same}
use Rattle.replay_runner.proofs.locked.Locked.next.Goals as goal

pub next-requires : goal.next-requires
next-requires g c = same_program g.J.Naming.run c.args.p.now c.self.inside.machine c.requires c.self.invariant

pub invariant_of-self : goal.invariant_of-self
invariant_of-self g c = next_stays c.one_more_happens.ensures g.J.Naming.run c.self.inside.machine c.next.new.self c.next.ensures.next c.self.invariant

pub returns-clause-still : goal.returns-clause-still
returns-clause-still g c e = next_same c.self.inside.machine c.next.new.self (sym c.next.ensures.may ∙ e) c.next.ensures.next ∙ c.self.view_is
