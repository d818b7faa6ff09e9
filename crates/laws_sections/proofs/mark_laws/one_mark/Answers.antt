use Rattle.laws_sections.proofs.OneMarks.{one_mark}
use Rattle.laws_sections.proofs.mark_laws.one_mark.Goals as goal

pub returns : goal.returns
returns c = one_mark
