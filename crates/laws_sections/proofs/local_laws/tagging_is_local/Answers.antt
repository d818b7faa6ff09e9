use Rattle.laws_sections.proofs.TagLocal.{tag_local_law}
use Rattle.laws_sections.proofs.local_laws.tagging_is_local.Goals as goal

pub returns : goal.returns
returns c = tag_local_law
