use Rattle.laws_sections.proofs.ArrayColours.{one_colouring}
use Rattle.laws_sections.proofs.array_laws.colourings_are_one.Goals as goal

pub returns : goal.returns
returns c = one_colouring
