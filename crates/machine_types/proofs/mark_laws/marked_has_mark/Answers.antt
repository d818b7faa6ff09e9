use Rattle.machine_types.proofs.MarkedSections.{marked_has_mark}
use Rattle.machine_types.proofs.mark_laws.marked_has_mark.Goals as goal

pub returns : goal.returns
returns c = marked_has_mark
