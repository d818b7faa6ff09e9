use Rattle.guard_analysis.proofs.FlagsPut.{no_row}
use Rattle.guard_analysis.proofs.faults.reads_owned.Goals as goal

pub returns-in-None : goal.returns-in-None
returns-in-None c = no_row c.args.uses.now.elements c.args.method c.args.i c.in-None.ensures.value
