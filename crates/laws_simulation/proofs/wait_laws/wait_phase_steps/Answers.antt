use Rattle.laws_simulation.proofs.WaitPhases.{wait_phase_steps}
use Rattle.laws_simulation.proofs.wait_laws.wait_phase_steps.Goals as goal

pub returns : goal.returns
returns c = wait_phase_steps c.sites_lie_inside.ensures
