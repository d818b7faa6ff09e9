use Rattle.laws_states.proofs.KeptWords.{events_keep_records}
use Rattle.laws_states.proofs.kept_laws.records_are_kept.Goals as goal

pub returns : goal.returns
returns c = events_keep_records c.sites_differ.ensures c.sites_lie_inside.ensures c.events_reach_sites.ensures c.left_words_may_stand.ensures
