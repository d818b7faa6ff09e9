use Rattle.std.proofs.Common.{◌≡◌, drop}
use Rattle.machine_types.specs.Sections.{is_marked}
use Rattle.step_core.proofs.marked.is_marked_by.Given as goal

abbrev pub invariant-loop-mark : goal.invariant-loop-mark
invariant-loop-mark l = is_marked (drop l.mark-index l.marks) l.method l.spot ≡ is_marked l.marks l.method l.spot
