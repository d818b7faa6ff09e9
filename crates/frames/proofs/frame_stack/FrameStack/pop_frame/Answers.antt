use Rattle.frames.proofs.FrameLaws.{popped_frames, popped_laid}
use Rattle.frames.proofs.frame_stack.FrameStack.pop_frame.Goals as goal

pub invariant_of-self : goal.invariant_of-self
invariant_of-self c =
    let some = rw (← c.self.view_is) at c.requires in
    rw c.head_at-self-inside.ensures (popped_laid c.self.inside c.self.invariant some)

pub returns : goal.returns
returns c =
    let some = rw (← c.self.view_is) at c.requires in
    rw (← c.self.view_is, c.head_at-self-inside.ensures) (popped_frames c.self.inside c.self.invariant some)
