use Rattle.laws_simulation.proofs.LockEvents.{lock_steps}
use Rattle.laws_simulation.proofs.monitor_laws.lock_steps.Goals as goal

pub returns : goal.returns
returns c = lock_steps c.start_lies_apart.ensures c.sites_differ.ensures c.sites_lie_inside.ensures
