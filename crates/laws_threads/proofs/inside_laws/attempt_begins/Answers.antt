use Rattle.laws_threads.proofs.Beginning.{begins}
use Rattle.laws_threads.proofs.inside_laws.attempt_begins.Goals as goal

pub returns : goal.returns
returns c = begins c.marked_has_mark.ensures
