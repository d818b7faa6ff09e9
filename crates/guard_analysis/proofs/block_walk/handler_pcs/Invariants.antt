use Rattle.std.proofs.Common.{◌≡◌, ◌++◌, drop}
use Rattle.guard_analysis.specs.BlockWalks.{handler_pcs}
use Rattle.guard_analysis.proofs.block_walk.handler_pcs.Given as goal

abbrev pub invariant-loop-row : goal.invariant-loop-row
invariant-loop-row l = l.pcs.items ++ handler_pcs l.pc (drop l.row-index l.rows) ≡ handler_pcs l.pc l.rows
