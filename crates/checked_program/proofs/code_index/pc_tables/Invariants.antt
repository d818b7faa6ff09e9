use Rattle.std.proofs.Common.{◌≡◌, length}
use Rattle.checked_program.specs.CodeIndex.{ArePcTables}
use Rattle.checked_program.proofs.code_index.pc_tables.Given as goal

abbrev pub invariant-loop-m : goal.invariant-loop-m
invariant-loop-m l = record {
  so_far : length l.tables.items ≡ l.m-index;
  numbers : ArePcTables l.methods l.tables.items;
}
