use Rattle.latch_cell.proofs.LatchTruth.{added_latch_looks}
use Rattle.latch_cell.proofs.laws.added_latch_looks_are_true.Goals as goal

pub returns : goal.returns
returns c = added_latch_looks
