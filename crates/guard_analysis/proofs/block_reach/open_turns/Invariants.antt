use Rattle.std.proofs.Common.{◌≡◌, ◌+◌, drop}
use Rattle.guard_analysis.specs.BlockReach.{open_rows}
use Rattle.guard_analysis.proofs.block_reach.open_turns.Given as goal

abbrev pub invariant-loop-row : goal.invariant-loop-row
invariant-loop-row l = record {
  count : l.count ≡ l.row-index + 1;
  rest : l.row-index + open_rows l.pc (drop l.row-index l.rows) ≡ open_rows l.pc l.rows;
}
