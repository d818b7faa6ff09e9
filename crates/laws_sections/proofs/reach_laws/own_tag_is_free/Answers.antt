use Rattle.laws_sections.proofs.TagFree.{own_tag_free}
use Rattle.laws_sections.proofs.reach_laws.own_tag_is_free.Goals as goal

pub returns : goal.returns
returns c = own_tag_free
