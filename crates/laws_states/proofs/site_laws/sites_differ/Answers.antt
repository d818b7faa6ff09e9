use Rattle.laws_states.proofs.Sites.{sites_apart}
use Rattle.laws_states.proofs.site_laws.sites_differ.Goals as goal

pub returns : goal.returns
returns c = sites_apart c.start_lies_apart.ensures
