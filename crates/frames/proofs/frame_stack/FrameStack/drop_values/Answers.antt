use Rattle.frames.proofs.FrameLaws.{values_dropped}
use Rattle.frames.proofs.frame_stack.FrameStack.drop_values.Goals as goal

pub returns : goal.returns
returns c =
    let some = rw (← c.self.view_is) at c.requires.frame in
    let less = rw (← c.self.view_is) at c.requires.values in
    rw (← c.self.view_is) (values_dropped c.self.inside c.self.invariant some c.args.count less)
