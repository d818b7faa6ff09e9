use Rattle.frames.proofs.CopyLaws.{copied}
use Rattle.frames.proofs.frame_stack.FrameStack.copy_top.Goals as goal

pub returns-clause-copy : goal.returns-clause-copy
returns-clause-copy c =
    let some = rw (← c.self.view_is) at c.requires.frame in
    let same = rw c.as_slice.ensures.value at c.copy_slots.ensures.copied in
    rw (← c.self.view_is) (copied c.self.inside c.self.invariant some c.copy_slots.new.slots.items same)
