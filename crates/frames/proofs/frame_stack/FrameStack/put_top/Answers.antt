use Rattle.frames.proofs.CopyLaws.{restored}
use Rattle.frames.proofs.frame_stack.FrameStack.put_top.Goals as goal

pub returns : goal.returns
returns c =
    let some = rw (← c.self.view_is) at c.requires.frame in
    let fits = rw (← c.self.view_is) at c.requires.fits in
    let alike = rw (← c.self.view_is) at c.requires.alike in
    let put = rw c.as_slice.ensures.value at c.copy_slots.ensures.copied in
    rw (← c.self.view_is) (restored c.self.inside c.self.invariant some c.args.kept.now.items c.args.head c.copy_slots.new.slots.items fits alike c.copy_slots.ensures.above put)
