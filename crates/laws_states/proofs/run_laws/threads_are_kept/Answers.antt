use Rattle.laws_states.proofs.EventFacts.{events_keep_threads}
use Rattle.laws_states.proofs.run_laws.threads_are_kept.Goals as goal

pub returns : goal.returns
returns c = events_keep_threads c.given_is_kept.ensures c.lawful_is_kept.ensures c.reached_fits.ensures c.events_fit_parts.ensures
