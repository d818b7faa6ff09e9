use Rattle.std.proofs.Common.{sym, subst}
use Rattle.machine_types.specs.Faithful.{IsOver}
use Rattle.replay_runner.{specs.Running.Running, proofs.Reaching.ends}
use Rattle.replay_runner.proofs.locked.Locked.outcome.Goals as goal

pub returns : goal.returns
returns g c = ends g.J.Naming.run c.self.inside.machine c.outcome.result c.self.invariant (subst (λ (m : Running). IsOver m.core) (sym c.self.view_is) c.requires) c.outcome.ensures
