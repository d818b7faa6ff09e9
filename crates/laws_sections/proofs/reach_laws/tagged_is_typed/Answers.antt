use Rattle.laws_sections.proofs.TagReach.{tagged_typed}
use Rattle.laws_sections.proofs.reach_laws.tagged_is_typed.Goals as goal

pub returns : goal.returns
returns c = tagged_typed
