use Rattle.std.proofs.Common.{◌≡◌, refl, subst, slice_set}
use Rattle.machine_types.specs.HeldMonitors.{with_held}
use Rattle.frames.{specs.HeldLists.AreOfOtherMonitors, proofs.HeldLaws.{add_keeps, put_keeps, put_new}}
use Rattle.frames.proofs.held.HeldList.put.Goals as goal

pub invariant_of-self : goal.invariant_of-self
invariant_of-self c =
    let held = c.self.inside.entries.items in
    let same : with_held c.args.held held ≡ slice_set held c.in-Some.i c.args.held = rw c.as_slice.ensures.value at (c.in-Some.ensures.some.3 c.args.held refl) in
    subst AreOfOtherMonitors same (put_keeps c.args.held held c.self.invariant)

pub invariant_of-self-in-None : goal.invariant_of-self-in-None
invariant_of-self-in-None c =
    let none = rw c.as_slice.ensures.value at c.in-None.ensures.none refl in
    rw c.push_reserved.ensures.items (add_keeps c.args.held c.self.inside.entries.items none c.self.invariant)

pub returns-in-None-clause-entries : goal.returns-in-None-clause-entries
returns-in-None-clause-entries c =
    let none = rw c.as_slice.ensures.value at c.in-None.ensures.none refl in
    rw (← c.self.view_is, c.push_reserved.ensures.items, put_new c.args.held c.self.inside.entries.items none) refl
