use Rattle.laws_simulation.proofs.PlainCounts.{counts_append}
use Rattle.laws_simulation.proofs.count_laws.counts_append.Goals as goal

pub returns : goal.returns
returns c = counts_append
