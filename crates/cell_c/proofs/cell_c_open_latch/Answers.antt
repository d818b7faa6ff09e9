use Rattle.cell_c.proofs.ForC.{opened_for_c}
use Rattle.cell_c.proofs.cell_c_open_latch.Goals as goal

pub returns-in-Ok : goal.returns-in-Ok
returns-in-Ok c = opened_for_c c.of.ensures c.in-Ok.ensures c.in_default.ensures
