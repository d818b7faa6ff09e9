use Rattle.laws_threads.proofs.AttemptBases.{are_based}
use Rattle.laws_threads.proofs.base_laws.attempts_are_based.Goals as goal

pub returns : goal.returns
returns c = are_based
