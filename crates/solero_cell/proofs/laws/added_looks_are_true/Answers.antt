use Rattle.solero_cell.proofs.Truth.{added_is_true}
use Rattle.solero_cell.proofs.laws.added_looks_are_true.Goals as goal

pub returns : goal.returns
returns c = added_is_true
