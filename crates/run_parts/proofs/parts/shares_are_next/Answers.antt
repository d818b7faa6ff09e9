use Rattle.run_parts.proofs.BegunThreads.{shares_are_next}
use Rattle.run_parts.proofs.parts.shares_are_next.Goals as goal

pub returns : goal.returns
returns c = shares_are_next
