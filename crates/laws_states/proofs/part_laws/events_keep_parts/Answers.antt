use Rattle.laws_states.proofs.PartsEvents.{events_keep_parts}
use Rattle.laws_states.proofs.part_laws.events_keep_parts.Goals as goal

pub returns : goal.returns
returns c = events_keep_parts c.one_method.ensures c.given_is_kept.ensures c.roots_are_kept.ensures
