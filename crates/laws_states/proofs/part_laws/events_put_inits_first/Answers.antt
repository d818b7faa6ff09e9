use Rattle.laws_states.proofs.ClassInitsFirst.{events_put_first}
use Rattle.laws_states.proofs.part_laws.events_put_inits_first.Goals as goal

pub returns : goal.returns
returns c = events_put_first c.given_is_kept.ensures
