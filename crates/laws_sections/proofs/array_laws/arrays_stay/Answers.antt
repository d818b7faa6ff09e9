use Rattle.laws_sections.proofs.ArrayColours.{array_law}
use Rattle.laws_sections.proofs.array_laws.arrays_stay.Goals as goal

pub returns : goal.returns
returns c = array_law
