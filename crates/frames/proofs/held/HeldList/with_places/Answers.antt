use Rattle.std.proofs.Common.{subst, sym}
use Rattle.frames.{specs.HeldLists.AreOfOtherMonitors, proofs.HeldLaws.none_held}
use Rattle.frames.proofs.held.HeldList.with_places.Goals as goal

pub invariant_of-result : goal.invariant_of-result
invariant_of-result c = subst AreOfOtherMonitors (sym c.in_ok-with_capacity.ensures.items) none_held
