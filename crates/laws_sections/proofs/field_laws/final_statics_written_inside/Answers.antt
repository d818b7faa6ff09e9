use Rattle.laws_sections.proofs.FieldWrites.{final_static_law}
use Rattle.laws_sections.proofs.field_laws.final_statics_written_inside.Goals as goal

pub returns : goal.returns
returns c = final_static_law
