use Rattle.laws_sections.proofs.FieldWrites.{final_law}
use Rattle.laws_sections.proofs.field_laws.finals_written_inside.Goals as goal

pub returns : goal.returns
returns c = final_law
