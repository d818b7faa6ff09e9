use Rattle.laws_sections.proofs.OneMarks.{one_use}
use Rattle.laws_sections.proofs.mark_laws.one_use.Goals as goal

pub returns : goal.returns
returns c = one_use
