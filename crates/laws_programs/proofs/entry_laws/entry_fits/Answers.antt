use Rattle.laws_programs.proofs.EntryFrame.{entry_fits_all}
use Rattle.laws_programs.proofs.entry_laws.entry_fits.Goals as goal

pub returns : goal.returns
returns c = entry_fits_all
