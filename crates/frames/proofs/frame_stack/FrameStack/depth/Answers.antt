use Rattle.std.proofs.Common.{arith}
use Rattle.frames.proofs.FrameLaws.{depth_is}
use Rattle.frames.proofs.frame_stack.FrameStack.depth.Goals as goal

pub returns-clause-depth : goal.returns-clause-depth
returns-clause-depth c = rw (← c.self.view_is) (omega (arith, depth_is c.self.inside c.self.invariant))

pub returns-clause-few : goal.returns-clause-few
returns-clause-few c = rw (← c.self.view_is) (omega (arith, depth_is c.self.inside c.self.invariant))
