use Rattle.std.proofs.Common.{◌*◌, length}
use Rattle.checked_program.specs.TaggedCode.{tagged_by}
use Rattle.mark_reasons.specs.{Reasons.marked_section, Searches.{Searching, left_of}}
use Rattle.mark_reasons.proofs.search.find_fault.Given as goal

abbrev pub invariant-loop-k : goal.invariant-loop-k
invariant-loop-k l = Searching l.p (tagged_by l.tags) l.uses (marked_section l.mark) (3 * length l.p.methods) l.k l.w

abbrev pub decreases-loop-k : goal.decreases-loop-k
decreases-loop-k l = left_of l.w l.k
