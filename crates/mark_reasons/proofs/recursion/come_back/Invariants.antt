use Rattle.std.proofs.Common.{◌*◌, length}
use Rattle.checked_program.specs.TaggedCode.{tagged_by}
use Rattle.mark_reasons.specs.{Reasons.marked_section, Searches.{Walking, unplaced}}
use Rattle.mark_reasons.proofs.recursion.come_back.Given as goal

abbrev pub invariant-loop-i : goal.invariant-loop-i
invariant-loop-i l = Walking l.p (tagged_by l.tags) (marked_section l.fn.mark) l.recurs (3 * length l.p.methods) l.node l.way l.places

abbrev pub decreases-loop-i : goal.decreases-loop-i
decreases-loop-i l = unplaced l.places
