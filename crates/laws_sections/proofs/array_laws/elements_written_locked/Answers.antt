use Rattle.laws_sections.proofs.ArrayColours.{element_write_law}
use Rattle.laws_sections.proofs.array_laws.elements_written_locked.Goals as goal

pub returns : goal.returns
returns c = element_write_law
