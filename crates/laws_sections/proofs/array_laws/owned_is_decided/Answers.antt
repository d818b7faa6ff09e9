use Rattle.laws_sections.proofs.ArrayColours.{owned_is_decided}
use Rattle.laws_sections.proofs.array_laws.owned_is_decided.Goals as goal

pub returns : goal.returns
returns c = owned_is_decided
