use Rattle.std.proofs.Common.{refl}
use Rattle.frames.proofs.CopyLaws.{below_base}
use Rattle.frames.proofs.thread_state.ThreadState.restore.Goals as goal

pub returns : goal.returns
returns c =
    let s = c.self.inside in
    let based = rw (← c.self.view_is, c.in-Some.is) at c.requires.based in
    rw (← c.self.view_is, c.in-Some.is, c.put_top.ensures, c.drop_to.ensures, below_base c.in-Some.entry.attempt.base s.frames.frames based.0) refl
