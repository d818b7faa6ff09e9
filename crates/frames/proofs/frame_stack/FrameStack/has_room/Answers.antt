use Rattle.frames.proofs.CallLaws.{room_then, room_else}
use Rattle.frames.proofs.frame_stack.FrameStack.has_room.Goals as goal

pub returns-then-self-gt0 : goal.returns-then-self-gt0
returns-then-self-gt0 c = rw (← c.self.view_is) (room_then c.self.inside c.self.invariant c.args.m.now c.if-self-gt0.true)

pub returns-else-self-gt0 : goal.returns-else-self-gt0
returns-else-self-gt0 c = rw (← c.self.view_is) (room_else c.self.inside c.self.invariant c.args.m.now c.if-self-gt0.false)
