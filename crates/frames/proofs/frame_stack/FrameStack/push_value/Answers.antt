use Rattle.frames.proofs.FrameLaws.{pushed}
use Rattle.frames.proofs.frame_stack.FrameStack.push_value.Goals as goal

pub returns : goal.returns
returns c =
    let some = rw (← c.self.view_is) at c.requires.frame in
    let room = rw (← c.self.view_is) at c.requires.room in
    rw (← c.self.view_is) (pushed c.self.inside c.self.invariant some c.args.value room)
