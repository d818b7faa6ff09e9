use Rattle.std.{proofs.Common.{take, ◌<◌, length}, specs.List.AllByRecursion}
use Rattle.code_table.specs.PcTables.{IsPcTable}
use Rattle.code_table.proofs.pc_table.PcTable.of.Given as goal

abbrev pub invariant-loop-i : goal.invariant-loop-i
invariant-loop-i l = record {
  places : IsPcTable (take l.i l.code) l.numbers.items;
  inside : AllByRecursion (λ insn. insn.pc < length l.numbers.items) l.code;
}
