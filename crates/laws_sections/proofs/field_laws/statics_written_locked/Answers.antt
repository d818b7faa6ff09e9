use Rattle.laws_sections.proofs.FieldWrites.{static_write_law}
use Rattle.laws_sections.proofs.field_laws.statics_written_locked.Goals as goal

pub returns : goal.returns
returns c = static_write_law
