use Rattle.laws_refinement.proofs.NeverReturns.{noted_never_returns}
use Rattle.laws_refinement.proofs.torn_laws.noted_never_returns.Goals as goal

pub returns : goal.returns
returns c = noted_never_returns c.parts_keep_threads.ensures c.runs_have_state.ensures c.sites_differ.ensures c.sites_lie_inside.ensures c.events_reach_sites.ensures
