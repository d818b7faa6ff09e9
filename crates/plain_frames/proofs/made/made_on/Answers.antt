use Rattle.std.proofs.Common.{refl}
use Rattle.plain_frames.proofs.made.made_on.Goals as goal

pub returns : goal.returns
returns c = rw (c.in_ok-f.ensures, c.in_ok-row.ensures, c.frame.ensures) refl
