use Rattle.machine_types.proofs.AtStart.{has_threads}
use Rattle.machine_types.proofs.start_laws.start_has_threads.Goals as goal

pub returns : goal.returns
returns c = has_threads
