use Rattle.laws_states.proofs.Sites.{sites_inside}
use Rattle.laws_states.proofs.site_laws.sites_lie_inside.Goals as goal

pub returns : goal.returns
returns c = sites_inside c.start_lies_apart.ensures
