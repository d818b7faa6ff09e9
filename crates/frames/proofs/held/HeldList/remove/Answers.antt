use Rattle.std.{proofs.Common.{◌≡◌, subst}, specs.List.remove}
use Rattle.machine_types.specs.HeldMonitors.{without_held}
use Rattle.frames.{specs.HeldLists.AreOfOtherMonitors, proofs.HeldLaws.drop_keeps}
use Rattle.frames.proofs.held.HeldList.remove.Goals as goal

pub invariant_of-self : goal.invariant_of-self
invariant_of-self c =
    let held = c.self.inside.entries.items in
    let same : without_held c.args.monitor held ≡ remove held c.in-Some.i = rw c.as_slice.ensures.value at (c.in-Some.ensures.some.2) in
    rw c.drop_at.ensures.items (subst AreOfOtherMonitors same (drop_keeps c.args.monitor held c.self.invariant))
