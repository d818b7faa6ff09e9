use Rattle.std.proofs.Common.{◌-◌, drop, arith, length-drop}
use Rattle.std.proofs.lemmas.List.{length-take}
use Rattle.frames.proofs.FrameLaws.{top_fits}
use Rattle.frames.proofs.frame_stack.FrameStack.gap.Goals as goal

pub returns : goal.returns
returns c =
    let s = c.self.inside in
    let h = s.top in
    let xs = drop s.free s.slots.items in
    let t = top_fits s c.self.invariant (rw (← c.self.view_is) at c.requires) in
    rw (← c.self.view_is, t.opened) (omega (arith, length-take (h.room - h.gap) (drop h.gap xs), length-drop h.gap xs, length-drop s.free s.slots.items, t.head.room, t.head.size, t.head.gap, t.inside, c.self.invariant.room))
