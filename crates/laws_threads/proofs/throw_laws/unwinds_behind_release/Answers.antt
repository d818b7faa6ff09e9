use Rattle.laws_threads.proofs.FrameThrows.{unwind_behind_law}
use Rattle.laws_threads.proofs.throw_laws.unwinds_behind_release.Goals as goal

pub returns : goal.returns
returns c = unwind_behind_law
