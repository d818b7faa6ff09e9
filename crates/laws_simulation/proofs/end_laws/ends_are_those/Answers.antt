use Rattle.laws_simulation.proofs.EndedParts.{ends_are_those}
use Rattle.laws_simulation.proofs.end_laws.ends_are_those.Goals as goal

pub returns : goal.returns
returns c = ends_are_those
