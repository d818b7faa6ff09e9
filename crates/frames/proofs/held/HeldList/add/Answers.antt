use Rattle.std.proofs.Common.{refl}
use Rattle.frames.proofs.HeldLaws.{add_keeps, put_new}
use Rattle.frames.proofs.held.HeldList.add.Goals as goal

pub invariant_of-self : goal.invariant_of-self
invariant_of-self c =
    let s = c.self.inside in
    let none = rw (← c.self.view_is) at c.requires.none in
    rw c.push_reserved.ensures.items (add_keeps c.args.held s.entries.items none c.self.invariant)

pub returns-clause-entries : goal.returns-clause-entries
returns-clause-entries c =
    let s = c.self.inside in
    let none = rw (← c.self.view_is) at c.requires.none in
    rw (← c.self.view_is, c.push_reserved.ensures.items, put_new c.args.held s.entries.items none) refl
