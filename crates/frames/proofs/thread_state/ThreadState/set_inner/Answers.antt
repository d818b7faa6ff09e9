use Rattle.std.proofs.Common.{refl}
use Rattle.frames.proofs.thread_state.ThreadState.set_inner.Goals as goal

pub returns-in-Some : goal.returns-in-Some
returns-in-Some c = rw (← c.self.view_is, c.in-Some.is) refl
