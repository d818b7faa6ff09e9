use Rattle.laws_simulation.proofs.WaitInstructions.{waiting_steps}
use Rattle.laws_simulation.proofs.wait_laws.waiting_steps.Goals as goal

pub returns : goal.returns
returns c = waiting_steps
