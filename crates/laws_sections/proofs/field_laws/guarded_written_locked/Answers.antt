use Rattle.laws_sections.proofs.FieldWrites.{write_law}
use Rattle.laws_sections.proofs.field_laws.guarded_written_locked.Goals as goal

pub returns : goal.returns
returns c = write_law
