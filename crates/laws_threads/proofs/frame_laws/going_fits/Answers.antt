use Rattle.laws_threads.proofs.TopStand.{going_fits}
use Rattle.laws_threads.proofs.frame_laws.going_fits.Goals as goal

pub returns : goal.returns
returns c = going_fits
