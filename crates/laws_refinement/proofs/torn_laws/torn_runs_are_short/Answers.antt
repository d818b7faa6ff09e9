use Rattle.laws_refinement.proofs.TornRuns.{torn_runs_are_short}
use Rattle.laws_refinement.proofs.torn_laws.torn_runs_are_short.Goals as goal

pub returns : goal.returns
returns c = torn_runs_are_short c.inside_may_do.ensures c.elements_inside.ensures c.runs_are_safe.ensures c.methods_are_apart.ensures c.noted_never_returns.ensures
