use Rattle.laws_states.proofs.Reached.{reached_fits}
use Rattle.laws_states.proofs.run_laws.reached_fits.Goals as goal

pub returns : goal.returns
returns c = reached_fits c.sites_lie_inside.ensures c.events_reach_sites.ensures c.heap_words_fit.ensures c.left_words_may_stand.ensures
